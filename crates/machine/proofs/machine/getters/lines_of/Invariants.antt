use Rattle.machine.proofs.Raised.{AreLines}
use Rattle.machine.proofs.machine.getters.lines_of.Given as goal

abbrev pub invariant-loop-device : goal.invariant-loop-device
invariant-loop-device g l = AreLines l.device-index l.devices l.line l.lines
