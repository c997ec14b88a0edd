use Rattle.sender.proofs.LiveBack.{live_back_is_served as proved}
use Rattle.sender.proofs.laws.live_back_is_served.Goals as goal

pub returns : goal.returns
returns c = proved
