use Rattle.std.proofs.Common.{◌≡◌, ◌<◌, ℕ, false}
use Rattle.blk.specs.Outside.{disk_call_at}
use Rattle.disk_calls.specs.Handing.{begins_as}
use Rattle.disk_calls.proofs.lookup.asker.Given as goal

abbrev pub invariant-loop-k : goal.invariant-loop-k
invariant-loop-k l = (j : ℕ) → j < l.k → begins_as l.fn.call (disk_call_at l.fn.requests j) ≡ false
