use Rattle.std.proofs.Common.{◌≡◌, drop}
use Rattle.c_machine.specs.Making.{are_plain}
use Rattle.c_machine.proofs.making.are_plain.Given as goal

abbrev pub invariant-loop-shape : goal.invariant-loop-shape
invariant-loop-shape l = are_plain l.fn.limits (drop l.shape-index l.shapes) ≡ are_plain l.fn.limits l.shapes
