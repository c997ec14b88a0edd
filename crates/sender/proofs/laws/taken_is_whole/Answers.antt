use Rattle.sender.proofs.Taking.{taken_are_whole as proved}
use Rattle.sender.proofs.laws.taken_is_whole.Goals as goal

pub returns : goal.returns
returns c = proved
