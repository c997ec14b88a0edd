use Rattle.sender.proofs.Unsynced.{failure_follows as proved}
use Rattle.sender.proofs.laws.failed_flush_follows_the_history.Goals as goal

pub returns : goal.returns
returns c = proved
