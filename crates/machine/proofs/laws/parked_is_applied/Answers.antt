use Rattle.machine.proofs.ParkedCalls.{parked_is_applied as proved}
use Rattle.machine.proofs.laws.parked_is_applied.Goals as goal

pub returns : goal.returns
returns c = proved
