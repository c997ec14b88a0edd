use Rattle.std.proofs.Common.{◌≡◌, ◌++◌, drop, map, take}
use Rattle.c_machine.specs.Description.{described}
use Rattle.c_machine.proofs.description.tell_shapes.Given as goal

abbrev pub invariant-loop-at : goal.invariant-loop-at
invariant-loop-at l = l.told ≡ map described (take l.at l.shapes) ++ drop l.at l.fn.told
