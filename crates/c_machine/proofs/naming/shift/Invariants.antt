use Rattle.std.proofs.Common.{◌≡◌, ◌++◌, drop, take}
use Rattle.c_machine.specs.Named.{shifted}
use Rattle.c_machine.proofs.naming.shift.Given as goal

abbrev pub invariant-loop-at : goal.invariant-loop-at
invariant-loop-at l = l.numbers.items ≡ shifted l.first (take l.at l.fn.numbers.items) ++ drop l.at l.fn.numbers.items
