use Rattle.std.proofs.Common.{◌≡◌, drop}
use Rattle.std.specs.Prelude.{max}
use Rattle.c_machine.specs.Description.{message_of}
use Rattle.c_machine.proofs.description.message_of.Given as goal

abbrev pub invariant-loop-shape : goal.invariant-loop-shape
invariant-loop-shape l = max l.most (message_of (drop l.shape-index l.shapes)) ≡ message_of l.shapes
