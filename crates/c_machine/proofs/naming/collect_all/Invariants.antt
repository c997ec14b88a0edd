use Rattle.std.proofs.Common.{◌≡◌, ◌≤◌}
use Rattle.std.specs.Vec.{vec_capacity}
use Rattle.c_machine.specs.Named.{numbers_below}
use Rattle.c_machine.proofs.naming.collect_all.Given as goal

abbrev pub invariant-loop-n : goal.invariant-loop-n
invariant-loop-n l = record { list : l.numbers.items ≡ numbers_below l.n; within : l.n ≤ l.count; room : vec_capacity l.fn.numbers ≤ vec_capacity l.numbers }
