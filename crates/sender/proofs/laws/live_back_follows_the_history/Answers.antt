use Rattle.sender.proofs.LiveBack.{live_back_follows as proved}
use Rattle.sender.proofs.laws.live_back_follows_the_history.Goals as goal

pub returns : goal.returns
returns c = proved
