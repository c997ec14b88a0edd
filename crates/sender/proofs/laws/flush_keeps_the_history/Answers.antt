use Rattle.sender.proofs.Flushed.{flush_follows as proved}
use Rattle.sender.proofs.laws.flush_keeps_the_history.Goals as goal

pub returns : goal.returns
returns c = proved
