use Rattle.machine.proofs.ParkedCalls.{parked_is_read as proved}
use Rattle.machine.proofs.laws.parked_is_read.Goals as goal

pub returns : goal.returns
returns c = proved
