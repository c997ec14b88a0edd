use Rattle.std.proofs.Common.{◌≡◌, ◌≤◌, ◌*◌, ◌-◌, length}
use Rattle.std.specs.Prelude.{min}
use Rattle.std.specs.Vec.{vec_capacity}
use Rattle.c_machine.specs.Named.{marked}
use Rattle.c_machine.proofs.naming.collect_marked.Given as goal

abbrev pub invariant-loop-at : goal.invariant-loop-at
invariant-loop-at l = record { list : l.numbers.items ≡ marked l.words (min (64 * l.at) l.count); within : l.at ≤ length l.covering; room : vec_capacity l.fn.numbers ≤ vec_capacity l.numbers }

abbrev pub decreases-loop-at : goal.decreases-loop-at
decreases-loop-at l = length l.covering - l.at
