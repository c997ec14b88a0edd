use Rattle.sender.proofs.Behind.{failure_stays_behind as proved}
use Rattle.sender.proofs.laws.failed_flush_stays_behind.Goals as goal

pub returns : goal.returns
returns c = proved
