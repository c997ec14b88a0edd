use Rattle.std.proofs.Common.{◌≡◌, drop}
use Rattle.std.specs.Prelude.{max}
use Rattle.c_machine.specs.Outside.{largest_outside}
use Rattle.c_machine.proofs.outside.largest_outside.Given as goal

abbrev pub invariant-loop-shape : goal.invariant-loop-shape
invariant-loop-shape l = max l.most (largest_outside (drop l.shape-index l.shapes)) ≡ largest_outside l.shapes
