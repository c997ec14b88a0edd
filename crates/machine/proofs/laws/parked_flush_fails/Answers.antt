use Rattle.machine.proofs.ParkedCalls.{parked_flush_fails as proved}
use Rattle.machine.proofs.laws.parked_flush_fails.Goals as goal

pub returns : goal.returns
returns c = proved
