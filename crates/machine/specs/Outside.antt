-- A disk outside of the machine: what its device asks of it, and what its answer changes (VIRTIO 1.2, 5.2.6). The host has the disk, and is asked; no
-- sector of it is in the machine.
use Rattle.std.specs.Prelude.{◌≡◌, ℕ, ◌+◌, ◌-◌, ◌≤◌, ◌^◌, ◌&&◌, nat_lt, not, Bool, true, false, List, [], ◌++◌, drop, length, slice_get, Option, Some, None, Result, Ok, Err, if◌then◌else◌}
use Rattle.std.specs.Option.{option_map}
use Rattle.guestmem.specs.Item.{Item}
use Rattle.guestmem.specs.Writes.{set_all, touched}
use Rattle.mmio.specs.Bits.{has}
use Rattle.mmio.specs.Status.{is_running}
use Rattle.blk.specs.Block.{with_requests}
use Rattle.blk.specs.Outside.{Answer, Answering, Did, Failed, Gave, answer_step, disk_call_in, written_bytes}
use Rattle.blk.specs.Writing.{count_to_write_in}
use Rattle.blk.specs.declared.block.Block as blocks
use Rattle.blk.specs.declared.outside.DiskCall.{DiskCall}
use Rattle.blk.specs.declared.outside.What.{What}
use Rattle.blk.specs.declared.outside.What.TheVariants as to
use Rattle.blk.specs.declared.request.Request.{Request}
use Rattle.machine.specs.DeviceStep.{DeviceAnswer, unmoved}
use Rattle.machine.specs.State.{DeviceState, MachineState}
use Rattle.machine.specs.declared.event.DiskAnswer.{DiskAnswer}
use Rattle.machine.specs.declared.event.DiskAnswer.TheVariants as answers
use Rattle.machine.specs.declared.kind.Kind.{Kind}
use Rattle.machine.specs.declared.kind.Kind.TheVariants.{Outside}
use Rattle.machine.specs.declared.outside_call.OutsideCall.{OutsideCall}
use Rattle.machine.specs.declared.reply.Refusal.{Refusal}
use Rattle.machine.specs.declared.reply.Refusal.TheVariants.{WrongKind}
use Rattle.machine.specs.declared.reply.Reply.{Reply}
use Rattle.machine.specs.declared.reply.Reply.TheVariants.{Done, Idle, Moved, Refused}
use Rattle.machine.specs.declared.shape.Shape.{Shape}
use Rattle.machine.specs.declared.shape.Shape.TheVariants as shapes

-- The outstanding requests of a device whose disk is outside.
abbrev pub outside_requests : Kind → List Request
outside_requests (Outside block) = block.requests
outside_requests _ = []

-- Those that may ask for something: none of a device that does not run (VIRTIO 1.2, 2.1.2).
abbrev pub asking_requests : DeviceState → List Request
asking_requests d = if is_running d.registers.common then outside_requests d.kind else []

-- The request that a pick names: n > 0 names the n-th, counted from 1 in the order of taking.
abbrev pub asking_request : DeviceState → ℕ → Option Request
asking_request d pick = if nat_lt 0 pick then slice_get (asking_requests d) (pick - 1) else None

-- The disk is to change sectors.
abbrev pub changes_sectors : What → Bool
changes_sectors to.Read = false
changes_sectors to.Write = true
changes_sectors to.Clear = true
changes_sectors to.Flush = false

-- A call of a driver that accepted these features. One that did not accept FLUSH, bit 9, takes for durable what it has written, or cleared, once the
-- request has ended (VIRTIO 1.2, 5.2.6.2). So it has to be durable before the call is answered.
abbrev pub call_with : ℕ → DiskCall → OutsideCall
call_with features call = record { call = call; durable = changes_sectors call.what && not (has features (2 ^ 9)) }

-- What the request of this pick asks of the disk.
abbrev pub outside_call : DeviceState → ℕ → Option OutsideCall
outside_call d pick = option_map (call_with d.registers.common.features) (disk_call_in (asking_request d pick))

abbrev pub call_in : Option DeviceState → ℕ → Option OutsideCall
call_in None pick = None
call_in (Some d) pick = outside_call d pick

abbrev pub disk_call_of : MachineState → ℕ → ℕ → Option OutsideCall
disk_call_of m dev pick = call_in (slice_get m.devices dev) pick

-- What a host relies on that serves such a call, whatever a guest or a stream did: it has one sector at least, and none past the last; and no sector of a
-- device is changed that its driver may only read.
pub record IsWithinDisk (sectors : ℕ) (read_only : Bool) (call : DiskCall) : Type 0 where
  pub some : 1 ≤ call.count
  pub inside : call.first + call.count ≤ sectors
  pub may : changes_sectors call.what ≡ true → read_only ≡ false

-- The device of this shape may ask for it.
abbrev pub MayAsk : Shape → DiskCall → Type 0
MayAsk (shapes.Outside sectors read_only id) call = IsWithinDisk sectors read_only call
MayAsk _ call = ⊥

abbrev pub request_in : Option DeviceState → ℕ → Option Request
request_in None pick = None
request_in (Some d) pick = asking_request d pick

-- The request of this device and this pick.
abbrev pub request_of : MachineState → ℕ → ℕ → Option Request
request_of m dev pick = request_in (slice_get m.devices dev) pick

abbrev pub base_in : Option DeviceState → ℕ
base_in None = 0
base_in (Some d) = d.registers.ram_base

-- A buffer was filled from the front with the bytes that the request of this pick writes next, as they lie in RAM, and told how many these are: all that
-- it has left, or as many as the buffer holds.
pub record IsFilled (m : MachineState) (dev pick : ℕ) (old : List ℕ) (count : ℕ) (new : List ℕ) : Type 0 where
  pub count_is : count ≡ count_to_write_in (request_of m dev pick) (length old)
  pub bytes_are : (r : Request) → request_of m dev pick ≡ Some r → new ≡ written_bytes (base_in (slice_get m.devices dev)) m.ram r count ++ drop count old

-- What a host hands in as the answer of the disk.
abbrev pub answer_of : DiskAnswer → Answer
answer_of (answers.Gave bytes) = Gave bytes
answer_of (answers.Did count) = Did count
answer_of answers.Failed = Failed

-- The reply, where the request awaits the answer: bytes and units have moved it; after a failure all is done but its end.
abbrev pub reply_to_disk : Answer → Reply
reply_to_disk (Gave bytes) = Moved
reply_to_disk (Did count) = Moved
reply_to_disk Failed = Done

abbrev pub taken_in : DeviceState → blocks.Block → Answer → Answering → DeviceAnswer
taken_in d block answer a =
    if a.taken then record { reply = reply_to_disk answer; writes = a.writes; sets = []; device = record d { kind = Outside (with_requests block a.requests) } }
    else unmoved d Idle

-- A device hands an answer of its disk to the request of this pick. It is idle if it does not run, or the request does not await such an answer. Nothing
-- says who asked: the answer is for the request that stands at its pick when it comes.
abbrev pub answer_disk : DeviceState → blocks.Block → ℕ → Answer → DeviceAnswer
answer_disk d block pick answer =
    if is_running d.registers.common && nat_lt 0 pick then taken_in d block answer (answer_step d.registers.ram_base block.requests (pick - 1) answer)
    else unmoved d Idle

-- Another device has no disk outside.
abbrev pub disk_answered : DeviceState → Kind → ℕ → Answer → Result DeviceAnswer Refusal
disk_answered d (Outside block) pick answer = Ok (answer_disk d block pick answer)
disk_answered d _ pick answer = Err WrongKind

-- The result of a direct call that hands an answer in, as the reply: whether the request awaited it.
abbrev pub disk_reply : Answer → Result Bool Refusal → Reply
disk_reply answer (Ok true) = reply_to_disk answer
disk_reply answer (Ok false) = Idle
disk_reply answer (Err refusal) = Refused refusal

-- An answer was handed to a device: the result, and RAM and the device after it, and which items were touched. What touching is, as that a log has taken
-- the items in, `touches` says.
pub record GotAnswer (touches : List Item → Type 0) (ram : List ℕ) (answer : Answer) (s : DeviceAnswer) (result : Result Bool Refusal) (new_ram : List ℕ) (new : DeviceState) : Type 0 where
  pub reply_is : disk_reply answer result ≡ s.reply
  pub ram_is : new_ram ≡ set_all ram s.writes
  pub device_is : new ≡ s.device
  pub items_are : touches (touched s.writes)

pub record RefusedAnswer (touches : List Item → Type 0) (ram : List ℕ) (refusal : Refusal) (d : DeviceState) (result : Result Bool Refusal) (new_ram : List ℕ) (new : DeviceState) : Type 0 where
  pub refused : result ≡ Err refusal
  pub ram_is : new_ram ≡ ram
  pub device_is : new ≡ d
  pub items_are : touches []

abbrev pub GotAnswerOrRefused : (List Item → Type 0) → List ℕ → Answer → DeviceState → Result DeviceAnswer Refusal → Result Bool Refusal → List ℕ → DeviceState → Type 0
GotAnswerOrRefused touches ram answer d (Ok s) result new_ram new = GotAnswer touches ram answer s result new_ram new
GotAnswerOrRefused touches ram answer d (Err refusal) result new_ram new = RefusedAnswer touches ram refusal d result new_ram new

abbrev pub TakesAnswer : (List Item → Type 0) → List ℕ → DeviceState → ℕ → Answer → Result Bool Refusal → List ℕ → DeviceState → Type 0
TakesAnswer touches ram d pick answer result new_ram new = GotAnswerOrRefused touches ram answer d (disk_answered d d.kind pick answer) result new_ram new
