use Rattle.sender.proofs.Fresh.{stale_is_not_fresh as proved}
use Rattle.sender.proofs.laws.stale_is_not_fresh.Goals as goal

pub returns : goal.returns
returns c = proved
