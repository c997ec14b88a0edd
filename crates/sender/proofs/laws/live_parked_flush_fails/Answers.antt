use Rattle.sender.proofs.ParkedServed.{live_parked_flush_fails as proved}
use Rattle.sender.proofs.laws.live_parked_flush_fails.Goals as goal

pub returns : goal.returns
returns c = proved
