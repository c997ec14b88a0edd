use Rattle.std.proofs.Common.{◌≡◌, ◌<◌, ℕ, None}
use Rattle.disk_calls.specs.Handing.{call_at}
use Rattle.disk_calls.proofs.device_calls.DeviceCalls.next.Given as goal

abbrev pub invariant-loop-k : goal.invariant-loop-k
invariant-loop-k l = (j : ℕ) → j < l.k → call_at l.fn.self.size l.fn.most l.fn.self.outs l.fn.requests j ≡ None
