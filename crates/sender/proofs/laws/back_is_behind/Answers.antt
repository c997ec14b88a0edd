use Rattle.sender.proofs.Behind.{back_is_behind as proved}
use Rattle.sender.proofs.laws.back_is_behind.Goals as goal

pub returns : goal.returns
returns c = proved
