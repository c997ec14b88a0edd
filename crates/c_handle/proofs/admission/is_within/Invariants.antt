use Rattle.std.proofs.Common.{◌≡◌, drop, nat_lt}
use Rattle.c_machine.specs.Images.{sectors_in}
use Rattle.c_handle.proofs.admission.is_within.Given as goal

abbrev pub invariant-loop-shape : goal.invariant-loop-shape
invariant-loop-shape l = nat_lt l.left (sectors_in (drop l.shape-index l.shapes)) ≡ nat_lt l.fn.allowed.sectors (sectors_in l.shapes)
