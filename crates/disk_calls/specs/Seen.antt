-- The calls of a machine, device by device: what is done with them is what the turns of a device say.
use Rattle.std.specs.Prelude.{◌≡◌, ◌≢◌, ℕ, ◌≤◌, true, List, [], slice_get, slice_index_or, Some}
use Rattle.blk.specs.Outside.{Answer, answer_step, answers}
use Rattle.blk.specs.declared.request.Request.{Request}
use Rattle.disk_calls.specs.Calls.{AllCalls, CallsState, IsAt, IsHandedOut, without}
use Rattle.disk_calls.specs.Desk.{Desk, Goes, Hand, Reply, outs_of}
use Rattle.disk_calls.specs.Handing.{asker}
use Rattle.disk_calls.specs.declared.calls.Handed.{Handed}
use Rattle.disk_calls.specs.declared.out.Out.{Out}

-- These are the requests of a device, and its calls that are out.
pub record IsSeen (calls : AllCalls) (asked : List (List Request)) (dev size : ℕ) (d : Desk) : Type 0 where
  pub device : CallsState
  pub there : slice_get calls.devices dev ≡ Some device
  pub size_is : device.size ≡ size
  pub outs_are : device.outs ≡ outs_of d.placed
  pub requests_are : slice_index_or asked dev [] ≡ d.requests

-- A call that is handed out is a turn of its device, and none of another.
abbrev pub HandingIsATurn : Type 0
HandingIsATurn = (size base most : ℕ) (asked : List (List Request)) (old new : AllCalls) (handed : Handed) (d : Desk) → 1 ≤ most → IsHandedOut most old asked handed new → IsSeen old asked handed.dev size d
    → (next : Desk) × Goes size base d (Hand handed.k most handed.number) next × IsSeen new asked handed.dev size next

abbrev pub HandingIsNoOther : Type 0
HandingIsNoOther = (size most : ℕ) (asked : List (List Request)) (old new : AllCalls) (handed : Handed) (dev : ℕ) (d : Desk) → IsHandedOut most old asked handed new → dev ≢ handed.dev → IsSeen old asked dev size d → IsSeen new asked dev size d

-- So is the answer of a call, where the request that it is found to be for takes it as its disk's.
abbrev pub AnsweringIsATurn : Type 0
AnsweringIsATurn = (size base : ℕ) (asked then : List (List Request)) (calls : AllCalls) (dev i k : ℕ) (out : Out) (answer : Answer) (d : Desk) → IsAt calls.devices dev i out → answers out.call answer ≡ true → asker (slice_index_or asked dev []) out.call ≡ Some k
    → slice_index_or then dev [] ≡ (answer_step base (slice_index_or asked dev []) k answer).requests → IsSeen calls asked dev size d → (next : Desk) × Goes size base d (Reply i answer) next × IsSeen (without calls dev i) then dev size next
