-- The calls of disks that are out.
use Rattle.std.specs.Prelude.{◌≡◌, ◌≢◌, ℕ, ◌+◌, ◌-◌, ◌≤◌, ◌<◌, ◌^◌, nat_lt, All, Bool, false, List, [], ◌∷◌, ◌++◌, length, slice_get, slice_set, slice_index_or, Option, Some, None, if◌then◌else◌}
use Rattle.std.specs.List.{list_any, remove}
use Rattle.blk.specs.declared.outside.DiskCall.{DiskCall}
use Rattle.blk.specs.declared.request.Request.{Request}
use Rattle.disk_calls.specs.Handing.{call_at}
use Rattle.disk_calls.specs.Overlap.{overlap}
use Rattle.disk_calls.specs.declared.calls.Handed.{Handed}
use Rattle.disk_calls.specs.declared.out.Out.{Out}

-- It has a sector at least, and ends within 2^64.
pub record IsWithin (call : DiskCall) : Type 0 where
  pub some : 1 ≤ call.count
  pub to : call.first + call.count < 2 ^ 64

-- No two calls overlap.
abbrev pub AreApart : ℕ → List Out → Type 0
AreApart size outs = (i j : ℕ) (a b : Out) → slice_get outs i ≡ Some a → slice_get outs j ≡ Some b → i ≢ j → overlap size a.call b.call ≡ false

-- The calls of a device that are out, in the order of handing out, over storage with blocks of `size` sectors.
pub record CallsState : Type 0 where
  pub size : ℕ
  pub outs : List Out

-- The sectors of each request end within 2^64.
abbrev pub AreWithin : List Request → Type 0
AreWithin requests = All (λ r. r.first + r.units < 2 ^ 64) requests

-- The calls of all devices that are out; the device that is asked first for the next call; and the number of that call.
pub record AllCalls : Type 0 where
  pub devices : List CallsState
  pub turn : ℕ
  pub number : ℕ

abbrev pub call_of : ℕ → Option CallsState → List Request → ℕ → Option DiskCall
call_of most None requests k = None
call_of most (Some s) requests k = call_at s.size most s.outs requests k

-- The call of the k-th request of a device, both from 0, cut to `most` sectors, if it may be handed out. `asked` are the requests of each device.
abbrev pub call_of_device : ℕ → AllCalls → List (List Request) → ℕ → ℕ → Option DiskCall
call_of_device most calls asked dev k = call_of most (slice_get calls.devices dev) (slice_index_or asked dev []) k

-- The device `steps` steps after another, in a turn over `devices` devices.
abbrev pub in_turn : ℕ → ℕ → ℕ → ℕ
in_turn from devices steps = if nat_lt (from + steps) devices then from + steps else from + steps - devices

-- The next call: it may be handed out, no call of an earlier request of its device may, and none of a device that is earlier in turn.
pub record IsNext (most : ℕ) (calls : AllCalls) (asked : List (List Request)) (dev k : ℕ) (call : DiskCall) : Type 0 where
  pub may : call_of_device most calls asked dev k ≡ Some call
  pub first : (j : ℕ) → j < k → call_of_device most calls asked dev j ≡ None
  pub steps : ℕ
  pub few : steps < length calls.devices
  pub there : dev ≡ in_turn calls.turn (length calls.devices) steps
  pub before : (i j : ℕ) → i < steps → call_of_device most calls asked (in_turn calls.turn (length calls.devices) i) j ≡ None

-- A call of the k-th request of a device is out, after those that were.
abbrev pub with_out : CallsState → ℕ → DiskCall → CallsState
with_out s number call = record s { outs = s.outs ++ record { number = number; call = call } ∷ [] }

-- The next call is handed out. Then the device after its own is the first in turn, and the next number is one more.
pub record IsHandedOut (most : ℕ) (old : AllCalls) (asked : List (List Request)) (handed : Handed) (new : AllCalls) : Type 0 where
  pub next : IsNext most old asked handed.dev handed.k handed.call
  pub number : handed.number ≡ old.number
  pub device : CallsState
  pub was : slice_get old.devices handed.dev ≡ Some device
  pub after : new ≡ record { devices = slice_set old.devices handed.dev (with_out device handed.number handed.call); turn = in_turn handed.dev (length old.devices) 1; number = old.number + 1 }

-- Where a call is: its device, and its place among the calls of that.
pub record IsAt (devices : List CallsState) (dev i : ℕ) (out : Out) : Type 0 where
  pub device : CallsState
  pub there : slice_get devices dev ≡ Some device
  pub is : slice_get device.outs i ≡ Some out

-- Each call that is out has a number below the next one, and no other call has it.
pub record AreNumbered (calls : AllCalls) : Type 0 where
  pub below : (dev i : ℕ) (out : Out) → IsAt calls.devices dev i out → out.number < calls.number
  pub one : (dev i other j : ℕ) (a b : Out) → IsAt calls.devices dev i a → IsAt calls.devices other j b → a.number ≡ b.number → (dev ≡ other) × (i ≡ j)

-- A call of a device is out.
abbrev pub has_out : CallsState → Bool
has_out s = nat_lt 0 (length s.outs)

abbrev pub has_out_in : Option CallsState → Bool
has_out_in None = false
has_out_in (Some s) = has_out s

-- A call of this device is out: a write of a register that would drop its requests, and so a reset of the machine, has to wait.
abbrev pub is_out_of : AllCalls → ℕ → Bool
is_out_of calls dev = has_out_in (slice_get calls.devices dev)

-- A call is out: a stop has to wait.
abbrev pub is_any_out : AllCalls → Bool
is_any_out calls = list_any has_out calls.devices

-- The calls without the one of a device at this place.
abbrev pub without_at : AllCalls → ℕ → ℕ → Option CallsState → AllCalls
without_at calls dev i None = calls
without_at calls dev i (Some s) = record calls { devices = slice_set calls.devices dev (record s { outs = remove s.outs i }) }

abbrev pub without : AllCalls → ℕ → ℕ → AllCalls
without calls dev i = without_at calls dev i (slice_get calls.devices dev)
