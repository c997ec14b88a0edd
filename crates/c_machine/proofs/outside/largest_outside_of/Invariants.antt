use Rattle.std.proofs.Common.{◌≡◌, drop}
use Rattle.std.specs.Prelude.{max}
use Rattle.c_machine.specs.Making.{shapes_of}
use Rattle.c_machine.specs.Outside.{largest_outside}
use Rattle.c_machine.proofs.outside.largest_outside_of.Given as goal

abbrev pub invariant-loop-shape : goal.invariant-loop-shape
invariant-loop-shape l = max l.most (largest_outside (shapes_of (drop l.shape-index l.shapes))) ≡ largest_outside (shapes_of l.shapes)
