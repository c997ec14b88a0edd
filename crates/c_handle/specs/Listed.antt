-- The calls of disks outside that are out, listed for C.
use Rattle.std.specs.Prelude.{◌≡◌, ◌⊎◌, ℕ, Bool, true, false, List, ◌++◌, drop, length, map, replicate, Option, Some, None, slice_get, if◌then◌else◌}
use Rattle.blk.specs.declared.outside.DiskCall.{DiskCall}
use Rattle.disk_calls.specs.Calls.{AllCalls}
use Rattle.disk_calls.specs.Oldest.{AreOldestFrom, IsNoneFrom, after_last}
use Rattle.disk_calls.specs.declared.oldest.Listed.{Listed}
use Rattle.machine.specs.Outside.{call_with}
use Rattle.machine.specs.State.{DeviceState}
use Rattle.c_machine.specs.Status.{done, no_machine}
use Rattle.c_handle.specs.CallsOut.{count_out}
use Rattle.c_handle.specs.DiskCalls.{counted, what_of}
use Rattle.c_handle.specs.HandedOut.{is_here}
use Rattle.c_handle.specs.Kept.{KeptSeen}
use Rattle.c_handle.specs.OnHandle.{RefusesBoth}
use Rattle.c_handle.specs.Outside.{devices_of}
use Rattle.c_handle.specs.declared.outside.Call.{Call}

-- Whether a call has to be durable before it is answered. Its driver cannot change that while the call is out: that wants a reset, which is refused.
abbrev pub durable_of : Option DeviceState → DiskCall → ℕ
durable_of None call = 0
durable_of (Some d) call = if (call_with d.registers.common.features call).durable then 1 else 0

-- A call that is out, as it was handed out.
abbrev pub listed_call : List DeviceState → Listed → Call
listed_call devices l = record {
  number = l.out.number;
  first = l.out.call.first;
  count = counted l.out.call.what l.out.call.count;
  dev = l.dev;
  what = what_of l.out.call.what;
  durable = durable_of (slice_get devices l.dev) l.out.call;
  zero = 0;
  reserved = replicate 2 0;
}

-- The oldest are at the front of the list, oldest first: all that are out, or as many as there is room for.
pub record AreListed (devices : List DeviceState) (calls : AllCalls) (old new : List Call) : Type 0 where
  pub listed : List Listed
  pub oldest : AreOldestFrom calls 0 listed
  pub are : new ≡ map (listed_call devices) listed ++ drop (length listed) old
  pub all : (length listed ≡ length old) ⊎ IsNoneFrom calls (after_last 0 listed)

-- They are counted, whatever room there is.
pub record HasListed (k : KeptSeen) (status : ℕ) (old new : List Call) (count : ℕ) : Type 0 where
  pub status_is : status ≡ done
  pub count_is : count ≡ count_out k.calls
  pub listed : AreListed (devices_of k.state) k.calls old new

abbrev pub ListsIf : Bool → KeptSeen → ℕ → List Call → List Call → ℕ → ℕ → Type 0
ListsIf true k status old new count old_count = HasListed k status old new count
ListsIf false k status old new count old_count = RefusesBoth status new old count old_count no_machine

-- Also of a machine that was stopped, of which none is out, and of one whose RAM is lent. What arrives is no machine.
abbrev pub ListsKept : KeptSeen → ℕ → List Call → List Call → ℕ → ℕ → Type 0
ListsKept k status old new count old_count = ListsIf (is_here k.state) k status old new count old_count

abbrev pub ListsCalls : Option KeptSeen → ℕ → List Call → List Call → ℕ → ℕ → Type 0
ListsCalls None status old new count old_count = RefusesBoth status new old count old_count no_machine
ListsCalls (Some k) status old new count old_count = ListsKept k status old new count old_count
