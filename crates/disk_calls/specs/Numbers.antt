-- Numbers of calls from a first one on: those of one machine, where each machine of a host begins with another.
use Rattle.std.specs.Prelude.{◌≡◌, ◌≢◌, ℕ, ◌<◌, ◌≤◌, false, List}
use Rattle.blk.specs.declared.request.Request.{Request}
use Rattle.disk_calls.specs.Calls.{AllCalls, IsAt, IsHandedOut, is_any_out, without}
use Rattle.disk_calls.specs.declared.calls.Handed.{Handed}
use Rattle.disk_calls.specs.declared.out.Out.{Out}

-- The calls that are out, and all that are handed out later, have numbers from this one on.
pub record AreFrom (from : ℕ) (calls : AllCalls) : Type 0 where
  pub next : from ≤ calls.number
  pub outs : (dev i : ℕ) (out : Out) → IsAt calls.devices dev i out → from ≤ out.number

-- It is so where no call is out, and the next one has such a number.
abbrev pub NoneOutAreFrom : Type 0
NoneOutAreFrom = (from : ℕ) (calls : AllCalls) → is_any_out calls ≡ false → from ≤ calls.number → AreFrom from calls

-- It stays so after a call that is handed out, which has such a number too.
abbrev pub HandedAreFrom : Type 0
HandedAreFrom = (from most : ℕ) (asked : List (List Request)) (old new : AllCalls) (handed : Handed) → AreFrom from old → IsHandedOut most old asked handed new → AreFrom from new × (from ≤ handed.number)

-- And after one that is taken out.
abbrev pub RemovedAreFrom : Type 0
RemovedAreFrom = (from dev i : ℕ) (calls : AllCalls) → AreFrom from calls → AreFrom from (without calls dev i)

-- Then no call that is out has a number below.
abbrev pub NoneIsBelow : Type 0
NoneIsBelow = (from number dev i : ℕ) (calls : AllCalls) (out : Out) → AreFrom from calls → number < from → IsAt calls.devices dev i out → out.number ≢ number
