use Rattle.std.proofs.Common.{◌≡◌, drop}
use Rattle.c_handle.specs.Admission.{are_same_shapes}
use Rattle.c_handle.proofs.admission.are_same_shapes.Given as goal

abbrev pub invariant-loop-at : goal.invariant-loop-at
invariant-loop-at l = are_same_shapes (drop l.at l.one) (drop l.at l.other) ≡ are_same_shapes l.one l.other
