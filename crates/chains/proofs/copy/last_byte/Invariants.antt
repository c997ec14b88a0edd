use Rattle.std.proofs.Common.{◌≡◌, ◌≤◌, length, take}
use Rattle.chains.specs.Places.{places}
use Rattle.chains.proofs.copy.last_byte.Given as goal

-- The segments behind are empty.
abbrev pub invariant-loop-left : goal.invariant-loop-left
invariant-loop-left l = record {
  few : l.left ≤ length l.segs;
  same : places (take l.left l.segs) ≡ places l.segs;
}

abbrev pub decreases-loop-left : goal.decreases-loop-left
decreases-loop-left l = l.left
