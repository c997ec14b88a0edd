use Rattle.std.proofs.Common.{◌≡◌, ◌≤◌, ◌<◌, ◌-◌, true}
use Rattle.std.specs.Vec.{vec_capacity}
use Rattle.c_machine.specs.Named.{is_marked, marked}
use Rattle.c_machine.proofs.naming.collect_from.Given as goal

abbrev pub invariant-loop-n : goal.invariant-loop-n
invariant-loop-n l = record { list : l.numbers.items ≡ marked l.words l.n; low : l.from ≤ l.n; within : l.n ≤ l.until; found : l.n < l.until → is_marked l.words l.n ≡ true; room : vec_capacity l.fn.numbers ≤ vec_capacity l.numbers }

abbrev pub decreases-loop-n : goal.decreases-loop-n
decreases-loop-n l = l.until - l.n
