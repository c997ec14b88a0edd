use Rattle.sender.proofs.Behind.{flush_stays_behind as proved}
use Rattle.sender.proofs.laws.flush_stays_behind.Goals as goal

pub returns : goal.returns
returns c = proved
