use Rattle.sender.proofs.ParkedServed.{live_parked_is_flushed as proved}
use Rattle.sender.proofs.laws.live_parked_is_flushed.Goals as goal

pub returns : goal.returns
returns c = proved
