use Rattle.std.proofs.Common.{◌≡◌, ◌≤◌, drop, length}
use Rattle.c_handle.specs.Described.{lost_bits}
use Rattle.c_handle.proofs.describing.lost_bits.Given as goal

abbrev pub invariant-loop-at : goal.invariant-loop-at
invariant-loop-at l = record { within : l.at ≤ length l.lost; sum : l.bits ≡ lost_bits (drop l.at l.lost) }

abbrev pub decreases-loop-at : goal.decreases-loop-at
decreases-loop-at l = l.at
