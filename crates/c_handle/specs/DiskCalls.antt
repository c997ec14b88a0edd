-- Calls of disks outside, as C is handed them of a machine, and as a machine takes their answers.
use Rattle.std.specs.Prelude.{◌≡◌, ◌≢◌, ◌⊎◌, ℕ, ◌+◌, ◌-◌, ◌*◌, ◌/◌, ◌^◌, ◌<◌, ◌≤◌, ◌==◌, ◌&&◌, nat_lt, not, min, if◌then◌else◌, Bool, true, false, List, [], ◌++◌, drop, length, map, replicate, slice_get, slice_index_or, Option, Some, None}
use Rattle.guestmem.specs.Maybe.{after_if}
use Rattle.blk.specs.Outside.{disk_call, written_bytes}
use Rattle.blk.specs.declared.outside.DiskCall.{DiskCall}
use Rattle.blk.specs.declared.outside.What.{What}
use Rattle.blk.specs.declared.outside.What.TheVariants as to
use Rattle.blk.specs.declared.request.Request.{Request}
use Rattle.disk_calls.specs.Calls.{AllCalls, IsAt, IsHandedOut, call_of_device}
use Rattle.disk_calls.specs.Handing.{asker}
use Rattle.disk_calls.specs.Lost.{makes_durable}
use Rattle.disk_calls.specs.Machines.{asked_of}
use Rattle.disk_calls.specs.declared.calls.Handed.{Handed}
use Rattle.disk_calls.specs.declared.calls.Place.{Place}
use Rattle.disk_calls.specs.declared.out.Out.{Out}
use Rattle.machine.specs.Applied.{IsApplied, IsAppliedLogged}
use Rattle.machine.specs.Outside.{MayAsk, asking_requests, base_in, call_with, disk_call_of, request_of}
use Rattle.machine.specs.PageLog.{noted}
use Rattle.machine.specs.Parked.{IsAppliedParked, ParkedSeen, parked_states}
use Rattle.machine.specs.Seen.{Seen}
use Rattle.machine.specs.Shapes.{made_as}
use Rattle.machine.specs.State.{DeviceState, MachineState}
use Rattle.machine.specs.declared.event.DiskAnswer.{DiskAnswer}
use Rattle.machine.specs.declared.event.DiskAnswer.TheVariants as answers
use Rattle.machine.specs.declared.event.Event.TheVariants.{Disk}
use Rattle.machine.specs.declared.outside_call.OutsideCall.{OutsideCall}
use Rattle.machine.specs.declared.reply.Reply.{Reply}
use Rattle.machine.specs.declared.shape.Shape.{Shape}
use Rattle.c_machine.specs.Status as statuses
use Rattle.c_handle.specs.OnHandle.{Unless}
use Rattle.c_handle.specs.declared.outside.Call.{Call}
use Rattle.c_handle.specs.declared.outside.Given.{Given}
use Rattle.c_handle.specs.declared.outside.Given.TheVariants as given

-- What a call asks for, as C gets it.
abbrev pub what_of : What → ℕ
what_of to.Read = 1
what_of to.Write = 2
what_of to.Clear = 3
what_of to.Flush = 4

-- A flush has no sectors.
abbrev pub counted : What → ℕ → ℕ
counted to.Read count = count
counted to.Write count = count
counted to.Clear count = count
counted to.Flush count = 0

abbrev pub is_durable : Option OutsideCall → ℕ
is_durable None = 0
is_durable (Some asked) = if asked.durable then 1 else 0

-- A call that is handed out. Whether it has to be durable the machine says of the request that asks for it.
abbrev pub told_call : MachineState → Handed → Call
told_call m h = record {
  number = h.number;
  first = h.call.first;
  count = counted h.call.what h.call.count;
  dev = h.dev;
  what = what_of h.call.what;
  durable = is_durable (disk_call_of m h.dev (h.k + 1));
  zero = 0;
  reserved = replicate 2 0;
}

-- The bytes that a write is to write lie at the front of the buffer, as they lie in RAM; another call leaves the buffer as it was.
abbrev pub filled_by : What → List ℕ → ℕ → List ℕ → List ℕ
filled_by to.Write bytes size buf = bytes ++ drop size buf
filled_by to.Read bytes size buf = buf
filled_by to.Clear bytes size buf = buf
filled_by to.Flush bytes size buf = buf

abbrev pub bytes_of : ℕ → List ℕ → Option Request → ℕ → List ℕ
bytes_of base ram None size = []
bytes_of base ram (Some r) size = written_bytes base ram r size

abbrev pub filled_with : MachineState → Handed → List ℕ → List ℕ
filled_with m h buf =
    let size = 512 * h.call.count in
    filled_by h.call.what (bytes_of (base_in (slice_get m.devices h.dev)) m.ram (request_of m h.dev (h.k + 1)) size) size buf

-- As many sectors as there is room for.
abbrev pub most_for : List ℕ → ℕ
most_for buf = min (length buf / 512) (2 ^ 32 - 1)

-- The request at the place of a call asks for it: for these sectors, or for more from the same one on.
pub record IsAskedFor (m : MachineState) (h : Handed) : Type 0 where
  pub request : Request
  pub there : request_of m h.dev (h.k + 1) ≡ Some request
  pub asked : DiskCall
  pub asks : disk_call request ≡ Some asked
  pub some : 1 ≤ h.call.count
  pub few : h.call.count ≤ asked.count
  pub is : h.call ≡ record asked { count = h.call.count }

-- The device of a call may ask for it: it has a sector at least, none past the disk's last, and changes none of a read-only disk.
pub record IsAllowed (m : MachineState) (h : Handed) : Type 0 where
  pub shape : Shape
  pub there : slice_get (map (λ d. made_as d.kind) m.devices) h.dev ≡ Some shape
  pub may : MayAsk shape h.call

-- The next call was handed out.
pub record HasHanded (m : MachineState) (calls : AllCalls) (status : ℕ) (call old_call : Call) (buf new_buf : List ℕ) (after : AllCalls) : Type 0 where
  pub handed : Handed
  pub next : IsHandedOut (most_for buf) calls (asked_of m) handed after
  pub allowed : IsAllowed m handed
  pub status_is : status ≡ statuses.call
  pub call_is : call ≡ told_call m handed
  pub buf_is : new_buf ≡ filled_with m handed buf

-- Nothing was: this status, and all is as it was.
pub record HasHandedNone (calls : AllCalls) (status : ℕ) (call old_call : Call) (buf new_buf : List ℕ) (after : AllCalls) (reason : ℕ) : Type 0 where
  pub status_is : status ≡ reason
  pub call_same : call ≡ old_call
  pub buf_same : new_buf ≡ buf
  pub calls_same : after ≡ calls

-- No call of any device may be handed out, or numbers are used up.
abbrev pub HasNone : MachineState → AllCalls → List ℕ → Type 0
HasNone m calls buf = (dev j : ℕ) → calls.number < 2 ^ 64 - 1 → dev < length calls.devices → call_of_device (most_for buf) calls (asked_of m) dev j ≡ None

abbrev pub HandsFrom : MachineState → AllCalls → ℕ → Call → Call → List ℕ → List ℕ → AllCalls → Type 0
HandsFrom m calls status call old_call buf new_buf after =
    HasHanded m calls status call old_call buf new_buf after ⊎ (HasNone m calls buf × HasHandedNone calls status call old_call buf new_buf after statuses.idle)

-- Why none is handed out, whatever the machine asks for: it was stopped, or the buffer is too small for a sector.
abbrev pub handing_refusal : Option ℕ → ℕ → Option ℕ
handing_refusal (Some reason) size = Some reason
handing_refusal None size = if nat_lt size 512 then Some statuses.too_small else None

abbrev pub HandsUnless : Option ℕ → MachineState → AllCalls → ℕ → Call → Call → List ℕ → List ℕ → AllCalls → Type 0
HandsUnless stopped m calls status call old_call buf new_buf after =
    Unless (handing_refusal stopped (length buf)) (HasHandedNone calls status call old_call buf new_buf after) (HandsFrom m calls status call old_call buf new_buf after)

-- This many sectors that were done, with these bytes, are an answer to this call: of a read their bytes, of others none; one sector at least, and no more
-- than were handed out; of a flush none.
abbrev pub is_part : ℕ → ℕ → Bool
is_part count all = nat_lt 0 count && not (nat_lt all count)

abbrev pub answers_call : What → ℕ → ℕ → ℕ → Bool
answers_call to.Read all count bytes = is_part count all && bytes == 512 * count
answers_call to.Write all count bytes = is_part count all && bytes == 0
answers_call to.Clear all count bytes = is_part count all && bytes == 0
answers_call to.Flush all count bytes = count == 0 && bytes == 0

-- That answer, as the machine takes it: a flush is one unit.
abbrev pub done_as : What → ℕ → List ℕ → DiskAnswer
done_as to.Read count bytes = answers.Gave bytes
done_as to.Write count bytes = answers.Did count
done_as to.Clear count bytes = answers.Did count
done_as to.Flush count bytes = answers.Did 1

-- The bytes of a read go into RAM. No other answer touches it.
abbrev pub puts_bytes : DiskAnswer → Bool
puts_bytes (answers.Gave bytes) = true
puts_bytes (answers.Did count) = false
puts_bytes answers.Failed = false

-- An answer counts, unless the disk is lost and the answer would say that something is durable.
abbrev pub counts_in : Bool → Option DeviceState → DiskCall → Bool
counts_in lost None call = true
counts_in lost (Some d) call = not (lost && makes_durable (call_with d.registers.common.features call))

-- One that does not count is a failure for the request that asked, whatever the storage said.
abbrev pub counted_as : Bool → DiskAnswer → DiskAnswer
counted_as true answer = answer
counted_as false answer = answers.Failed

abbrev pub answer_in : Given → DiskAnswer
answer_in (given.Bytes bytes) = answers.Gave bytes.now
answer_in (given.Units count) = answers.Did count
answer_in given.Nothing = answers.Failed

-- A machine was handed an answer, for the request of this pick. Pages that it wrote are told to the log of written pages, where there is one.
abbrev pub TakesAnswer : DiskAnswer → Seen → Option (List Bool) → ℕ → ℕ → Seen → Option (List Bool) → Type 0
TakesAnswer (answers.Gave bytes) m log dev pick next new_log = (reply : Reply) × IsAppliedLogged (after_if noted) m log (Disk dev pick (answers.Gave bytes)) reply next new_log
TakesAnswer (answers.Did count) m log dev pick next new_log = (reply : Reply) × IsApplied m (Disk dev pick (answers.Did count)) reply next × (new_log ≡ log)
TakesAnswer answers.Failed m log dev pick next new_log = (reply : Reply) × IsApplied m (Disk dev pick answers.Failed) reply next × (new_log ≡ log)

-- The answer goes to the request that asked, by its place from 0. Where none waits for it any more nothing changed.
abbrev pub MeetsStill : Option ℕ → DiskAnswer → Seen → Option (List Bool) → ℕ → Seen → Option (List Bool) → Type 0
MeetsStill None answer m log dev next new_log = (next ≡ m) × (new_log ≡ log)
MeetsStill (Some k) answer m log dev next new_log = TakesAnswer answer m log dev (k + 1) next new_log

-- The request that asked: the first whose call begins as this one does.
abbrev pub asker_of : MachineState → Place → Option ℕ
asker_of m place = asker (slice_index_or (asked_of m) place.dev []) place.call

-- The same of a machine whose RAM is lent.
abbrev pub asker_lent : ParkedSeen → Place → Option ℕ
asker_lent p place = asker (slice_index_or (map asking_requests (parked_states p)) place.dev []) place.call

-- So is an answer handed to it, which touches no byte of RAM.
abbrev pub MeetsParked : Option ℕ → DiskAnswer → ParkedSeen → ℕ → ParkedSeen → Type 0
MeetsParked None answer p dev next = next ≡ p
MeetsParked (Some k) answer p dev next = (reply : Reply) × IsAppliedParked p (Disk dev (k + 1) answer) reply next

-- The call with this number is out at this place.
abbrev pub IsOut : AllCalls → ℕ → Place → Type 0
IsOut calls number place = IsAt calls.devices place.dev place.i (record { number = number; call = place.call })

-- None is, at any.
abbrev pub IsNotOut : AllCalls → ℕ → Type 0
IsNotOut calls number = (dev i : ℕ) (out : Out) → IsAt calls.devices dev i out → out.number ≢ number

-- This many sectors of a call were done, with these bytes.
abbrev pub fits_done : ℕ → List ℕ → DiskCall → Bool
fits_done count bytes call = answers_call call.what call.count count (length bytes)

abbrev pub done_with : ℕ → List ℕ → DiskCall → DiskAnswer
done_with count bytes call = done_as call.what count bytes
