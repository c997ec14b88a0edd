use Rattle.sender.proofs.Behind.{taken_stays_behind as proved}
use Rattle.sender.proofs.laws.taken_stays_behind.Goals as goal

pub returns : goal.returns
returns c = proved
