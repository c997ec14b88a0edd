use Rattle.sender.proofs.Going.{calls_follow as proved}
use Rattle.sender.proofs.laws.calls_follow.Goals as goal

pub returns : goal.returns
returns c = proved
