use Rattle.machine.proofs.Touching.{devices_stay}
use Rattle.machine.proofs.laws.pieces.untouched_devices_stay.Goals as goal

pub returns : goal.returns
returns c = devices_stay
