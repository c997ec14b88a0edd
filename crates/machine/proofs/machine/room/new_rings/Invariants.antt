use Rattle.machine.specs.Rings.{AreNewRings}
use Rattle.machine.proofs.machine.room.new_rings.Given as goal

abbrev pub invariant-loop-device : goal.invariant-loop-device
invariant-loop-device l = AreNewRings l.rings.items l._device
