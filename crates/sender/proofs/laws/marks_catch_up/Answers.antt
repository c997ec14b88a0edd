use Rattle.sender.proofs.Behind.{marks_catch_up as proved}
use Rattle.sender.proofs.laws.marks_catch_up.Goals as goal

pub returns : goal.returns
returns c = proved
