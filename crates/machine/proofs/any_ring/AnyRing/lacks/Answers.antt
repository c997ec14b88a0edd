use Rattle.machine.proofs.any_ring.AnyRing.lacks.Goals as goal

pub returns-in-Split : goal.returns-in-Split
returns-in-Split c = rw c.in-Split.is c.lacks.ensures

pub returns-in-Packed : goal.returns-in-Packed
returns-in-Packed c = rw c.in-Packed.is c.lacks-in-Packed.ensures
