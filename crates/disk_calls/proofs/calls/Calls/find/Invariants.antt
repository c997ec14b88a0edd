use Rattle.std.proofs.Common.{◌≢◌, ◌<◌, ℕ}
use Rattle.disk_calls.specs.Calls.{IsAt}
use Rattle.disk_calls.specs.declared.out.Out.{Out}
use Rattle.disk_calls.proofs.calls.Calls.find.Given as goal

abbrev pub invariant-loop-dev : goal.invariant-loop-dev
invariant-loop-dev l = (dev i : ℕ) (out : Out) → dev < l.dev → IsAt l.fn.self.devices dev i out → out.number ≢ l.fn.number
