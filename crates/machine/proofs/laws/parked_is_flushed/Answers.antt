use Rattle.machine.proofs.ParkedCalls.{parked_is_flushed as proved}
use Rattle.machine.proofs.laws.parked_is_flushed.Goals as goal

pub returns : goal.returns
returns c = proved
