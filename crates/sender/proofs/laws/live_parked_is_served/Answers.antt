use Rattle.sender.proofs.ParkedServed.{live_parked_is_served as proved}
use Rattle.sender.proofs.laws.live_parked_is_served.Goals as goal

pub returns : goal.returns
returns c = proved
