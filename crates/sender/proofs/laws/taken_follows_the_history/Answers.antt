use Rattle.sender.proofs.Taking.{taken_follow as proved}
use Rattle.sender.proofs.laws.taken_follows_the_history.Goals as goal

pub returns : goal.returns
returns c = proved
