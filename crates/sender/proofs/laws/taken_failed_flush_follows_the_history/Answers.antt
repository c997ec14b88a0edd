use Rattle.sender.proofs.Unsynced.{taken_failure_follows as proved}
use Rattle.sender.proofs.laws.taken_failed_flush_follows_the_history.Goals as goal

pub returns : goal.returns
returns c = proved
