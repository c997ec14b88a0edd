-- Steps of a machine.
--
-- A step sees the queue's answer as an argument: what may be seen is a relation to RAM, with one answer for each RAM, so equal
-- outcomes give equal steps. A step is an effect, applied: laws of effects, and what a log takes in, speak of the same list of
-- writes.
use Rattle.std.specs.Prelude.{min, ◌-◌, ◌++◌, ◌≡◌, ℕ, Bool, false, List, [], ◌∷◌, take, drop, length, Option, Some, None, slice_get, Result, Ok, Err, if◌then◌else◌}
use Rattle.guestmem.specs.Address.{access_refusal, index_of}
use Rattle.guestmem.specs.Item.{Item}
use Rattle.guestmem.specs.Writes.{byte_writes}
use Rattle.guestmem.specs.declared.error.RamError.{RamError}
use Rattle.guestmem.specs.declared.error.RamError.TheVariants as ram_error
use Rattle.mmio.specs.RegisterRead.{register_read}
use Rattle.mmio.specs.RegisterWrite.{register_write}
use Rattle.mmio.specs.State.{Registers}
use Rattle.mmio.specs.declared.queue.Queue.{Queue}
use Rattle.chains.specs.declared.next.Next.{Next}
use Rattle.console.specs.Emergency.{emergency_byte}
use Rattle.console.specs.Size.{resized}
use Rattle.console.specs.declared.host_bytes.TheConstants.{HOST_BYTES_MAX}
use Rattle.console.specs.declared.size.ConsoleSize.{ConsoleSize}
use Rattle.net.specs.Frame.{may_take}
use Rattle.net.specs.Inbox.{frames_with, kept_of, no_frames}
use Rattle.blk.specs.Sectors.{Sector}
use Rattle.blk.specs.Block.{dropped_unless}
use Rattle.machine.specs.DeviceStep.{DeviceAnswer, device_step, looked_at, network_with, wanted_of, MayLook}
use Rattle.machine.specs.Effect.{Effect, no_effect, sets_on, applied, items_of}
use Rattle.machine.specs.Outside.{answer_of, disk_answered}
use Rattle.machine.specs.Outcome.{Outcome, fine, disk_failed, no_memory, outcome_of}
use Rattle.machine.specs.QueuePositions.{restarted_positions}
use Rattle.machine.specs.Shapes.{configuration_of}
use Rattle.machine.specs.State.{DeviceState, MachineState, base_of}
use Rattle.machine.specs.declared.event.DiskAnswer.{DiskAnswer}
use Rattle.machine.specs.declared.event.Event.{Event}
use Rattle.machine.specs.declared.event.Event.TheVariants.{RegRead, RegWrite, MemRead, MemWrite, Step, Input, Resize, Drop, Disk}
use Rattle.machine.specs.declared.kind.Kind.{Kind}
use Rattle.machine.specs.declared.kind.Kind.TheVariants.{Network, Block, Outside, Console, Entropy}
use Rattle.machine.specs.declared.reply.Refusal.{Refusal}
use Rattle.machine.specs.declared.reply.Refusal.TheVariants.{NoDevice, OutOfRam, TooLong, WrongKind, BadFrame}
use Rattle.machine.specs.declared.reply.Reply.{Reply}
use Rattle.machine.specs.declared.reply.Reply.TheVariants.{Value, Done, OutByte, Bytes, Accepted, NoMemory, Refused}

-- The reply of a machine to an event, and its effect: what changes.
pub record Answer : Type 0 where
  pub reply : Reply
  pub effect : Effect

abbrev pub unchanged : Reply → Answer
unchanged reply = record { reply = reply; effect = no_effect }

abbrev pub refused : Refusal → Answer
refused refusal = unchanged (Refused refusal)

abbrev pub ram_refusal : RamError → Refusal
ram_refusal ram_error.OutOfRam = OutOfRam
ram_refusal ram_error.TooLong = TooLong

-- One device is replaced by another, and nothing else changes.
abbrev pub becomes : ℕ → DeviceState → Reply → Answer
becomes number device reply = record {
  reply = reply;
  effect = record { writes = []; sectors = []; replaced = Some (record { number = number; device = device }) };
}

-- The driver reads a register: the value is that of the register table.
abbrev pub register_value_of : DeviceState → ℕ → ℕ → ℕ
register_value_of d offset width = register_read d.registers offset width (configuration_of d.kind)

abbrev pub read_register : Option DeviceState → ℕ → ℕ → Answer
read_register None offset width = refused NoDevice
read_register (Some d) offset width = unchanged (Value (register_value_of d offset width))

-- Queue 0 is ready.
abbrev pub is_first_ready : List Queue → Bool
is_first_ready [] = false
is_first_ready (q ∷ qs) = q.is_ready

-- The outstanding requests of a block device are those of its queue 0, and are dropped if that queue is not ready.
abbrev pub dropped_unready : List Queue → Kind → Kind
dropped_unready queues (Block block) = Block (dropped_unless (is_first_ready queues) block)
dropped_unready queues (Outside block) = Outside (dropped_unless (is_first_ready queues) block)
dropped_unready queues kind = kind

-- A device with these registers: for a queue that is not ready in them the positions are the first ones again, and the requests
-- of a block device whose queue 0 is not ready are dropped.
abbrev pub with_registers : DeviceState → Registers → DeviceState
with_registers d r = record d { registers = r; positions = restarted_positions r.queues d.positions; kind = dropped_unready r.queues d.kind }

-- The reply to a write of a register. It does not say whether the write was accepted; but a console gives out the byte that is
-- written into its emergency register (VIRTIO 1.2, 5.3.5).
abbrev pub out_reply : Option ℕ → Reply
out_reply None = Done
out_reply (Some byte) = OutByte byte

abbrev pub written_out : Kind → ℕ → ℕ → ℕ → Option ℕ
written_out (Console size held) offset width value = emergency_byte offset width value
written_out (Outside block) offset width value = None
written_out _ offset width value = None

-- A device after the driver wrote a register: its registers are those of the register table. Whether the write was accepted is
-- not reported.
abbrev pub register_set : DeviceState → ℕ → ℕ → ℕ → DeviceState
register_set d offset width value = with_registers d (register_write d.registers offset width value).1

abbrev pub write_register : ℕ → Option DeviceState → ℕ → ℕ → ℕ → Answer
write_register number None offset width value = refused NoDevice
write_register number (Some d) offset width value = becomes number (register_set d offset width value) (out_reply (written_out d.kind offset width value))

-- The guest reads RAM, from an index on. The reply holds the bytes, so memory may be refused.
abbrev pub read_ram : List ℕ → ℕ → ℕ → Option RamError → Outcome → Answer
read_ram ram at len (Some error) o = refused (ram_refusal error)
read_ram ram at len None no_memory = unchanged NoMemory
read_ram ram at len None disk_failed = unchanged (Bytes (take len (drop at ram)))
read_ram ram at len None fine = unchanged (Bytes (take len (drop at ram)))

-- The guest writes RAM, from an index on.
abbrev pub write_ram : ℕ → List ℕ → Option RamError → Answer
write_ram at bytes (Some error) = refused (ram_refusal error)
write_ram at bytes None = record {
  reply = Done;
  effect = record { writes = byte_writes at bytes; sectors = []; replaced = None };
}

-- The host puts bytes in. A console and an entropy device keep the first ones that fit; a network device keeps a frame whole,
-- if there is room; a block device takes none.
abbrev pub accepted_in : List ℕ → List ℕ → ℕ
accepted_in pool bytes = min (length bytes) (HOST_BYTES_MAX - length pool)

-- The count of bytes that are kept, or why the input is refused.
abbrev pub input_of : Kind → List ℕ → Result ℕ Refusal
input_of (Network mac inbox) bytes = if may_take inbox.longest bytes then Ok (kept_of inbox bytes) else Err BadFrame
input_of (Block block) bytes = Err WrongKind
input_of (Outside block) bytes = Err WrongKind
input_of (Console size held) bytes = Ok (accepted_in held bytes)
input_of (Entropy pool) bytes = Ok (accepted_in pool bytes)

abbrev pub kind_with_input : Kind → List ℕ → Kind
kind_with_input (Network mac inbox) bytes = if may_take inbox.longest bytes then network_with mac inbox (frames_with inbox bytes) else Network mac inbox
kind_with_input (Block block) bytes = Block block
kind_with_input (Outside block) bytes = Outside block
kind_with_input (Console size held) bytes = Console size (held ++ take (accepted_in held bytes) bytes)
kind_with_input (Entropy pool) bytes = Entropy (pool ++ take (accepted_in pool bytes) bytes)

abbrev pub with_input : DeviceState → List ℕ → DeviceState
with_input d bytes = record d { kind = kind_with_input d.kind bytes }

abbrev pub put_by : ℕ → DeviceState → List ℕ → Result ℕ Refusal → Answer
put_by number d bytes (Err refusal) = refused refusal
put_by number d bytes (Ok count) = becomes number (with_input d bytes) (Accepted count)

abbrev pub put_in : ℕ → Option DeviceState → List ℕ → Answer
put_in number None bytes = refused NoDevice
put_in number (Some d) bytes = put_by number d bytes (input_of d.kind bytes)

-- The host drops what it has put in and the guest has not yet taken. A block device has none of it: its outstanding requests are
-- the guest's.
abbrev pub drop_of : Kind → Result (Unit {0}) Refusal
drop_of (Block block) = Err WrongKind
drop_of (Outside block) = Err WrongKind
drop_of kind = Ok tt

abbrev pub kind_without_input : Kind → Kind
kind_without_input (Network mac inbox) = Network mac (no_frames inbox.longest)
kind_without_input (Block block) = Block block
kind_without_input (Outside block) = Outside block
kind_without_input (Console size held) = Console size []
kind_without_input (Entropy pool) = Entropy []

abbrev pub without_input : DeviceState → DeviceState
without_input d = record d { kind = kind_without_input d.kind }

abbrev pub drop_by : ℕ → DeviceState → Result (Unit {0}) Refusal → Answer
drop_by number d (Err refusal) = refused refusal
drop_by number d (Ok done) = becomes number (without_input d) Done

abbrev pub drop_input : ℕ → Option DeviceState → Answer
drop_input number None = refused NoDevice
drop_input number (Some d) = drop_by number d (drop_of d.kind)

-- The host sets the size of a console. A different size is a change of its configuration (VIRTIO 1.2, 5.3.6).
abbrev pub size_by : ℕ → DeviceState → Kind → ConsoleSize → Answer
size_by number d (Console old held) size = becomes number (record d { registers = resized old size d.registers; kind = Console size held }) Done
size_by number d (Outside block) size = refused WrongKind
size_by number d _ size = refused WrongKind

-- As above, for the kind and the registers of the device. Another device refuses, and both stay as they were.
abbrev pub IsResized : Kind → ConsoleSize → Registers → Result (Unit {0}) Refusal → Kind → Registers → Type 0
IsResized (Console old held) size r result new new_r = (result ≡ Ok tt) × (new ≡ Console size held) × (new_r ≡ resized old size r)
IsResized (Outside block) size r result new new_r = (result ≡ Err WrongKind) × (new ≡ Outside block) × (new_r ≡ r)
IsResized kind size r result new new_r = (result ≡ Err WrongKind) × (new ≡ kind) × (new_r ≡ r)

abbrev pub ResizesDevice : DeviceState → ConsoleSize → Result (Unit {0}) Refusal → DeviceState → Type 0
ResizesDevice d size result new = (new ≡ record d { registers = new.registers; kind = new.kind }) × IsResized d.kind size d.registers result new.kind new.registers

abbrev pub set_size : ℕ → Option DeviceState → ConsoleSize → Answer
set_size number None size = refused NoDevice
set_size number (Some d) size = size_by number d d.kind size

-- A device does one piece of its work, where its disk has these sectors. If there is nothing to do it is idle.
abbrev pub step_device : ℕ → Option DeviceState → List ℕ → List Sector → ℕ → Outcome → Next → Answer
step_device number None ram content pick o seen = refused NoDevice
step_device number (Some d) ram content pick o seen =
    let s = device_step d ram content pick o seen in
    record {
      reply = s.reply;
      effect = record { writes = s.writes; sectors = sets_on number s.sets; replaced = Some (record { number = number; device = s.device }) };
    }

-- The host hands in what a disk outside answered to the request of this pick.
abbrev pub answered_by : ℕ → Result DeviceAnswer Refusal → Answer
answered_by number (Err refusal) = refused refusal
answered_by number (Ok s) = record {
  reply = s.reply;
  effect = record { writes = s.writes; sectors = []; replaced = Some (record { number = number; device = s.device }) };
}

abbrev pub hand_in : ℕ → Option DeviceState → ℕ → DiskAnswer → Answer
hand_in number None pick given = refused NoDevice
hand_in number (Some d) pick given = answered_by number (disk_answered d d.kind pick (answer_of given))

abbrev pub disk_or_none : Option (List Sector) → List Sector
disk_or_none None = []
disk_or_none (Some disk) = disk

-- The sectors of the disk of the device of this number.
abbrev pub disk_of : MachineState → ℕ → List Sector
disk_of m dev = disk_or_none (slice_get m.disks dev)

-- The reply of a machine to an event, and what changes, given the outcome of what it asks of the environment, and what the
-- queue that it looks at, if any, answers about its next chain. The addresses of RAM are guest-physical ones.
abbrev pub answer : MachineState → Event → Outcome → Next → Answer
answer m (RegRead dev off width) o seen = read_register (slice_get m.devices dev) off width
answer m (RegWrite dev off width value) o seen = write_register dev (slice_get m.devices dev) off width value
answer m (MemRead addr len) o seen = read_ram m.ram (index_of (base_of m.devices) addr) len (access_refusal (base_of m.devices) (length m.ram) addr len) o
answer m (MemWrite addr bytes) o seen = write_ram (index_of (base_of m.devices) addr) bytes (access_refusal (base_of m.devices) (length m.ram) addr (length bytes))
answer m (Step dev pick) o seen = step_device dev (slice_get m.devices dev) m.ram (disk_of m dev) pick o seen
answer m (Input dev bytes) o seen = put_in dev (slice_get m.devices dev) bytes
answer m (Resize dev cols rows) o seen = set_size dev (slice_get m.devices dev) (record { columns = cols; rows = rows })
answer m (Drop dev) o seen = drop_input dev (slice_get m.devices dev)
answer m (Disk dev pick given) o seen = hand_in dev (slice_get m.devices dev) pick given

-- What a step may see: if it looks at a queue, what the device sees there. This also says when memory may be refused.
abbrev pub MaySeeAt : Option DeviceState → List ℕ → ℕ → Outcome → Next → Type 0
MaySeeAt None ram pick o seen = Unit {0}
MaySeeAt (Some d) ram pick o seen = MayLook (wanted_of d.kind pick) (looked_at d pick) ram o seen

abbrev pub MaySee : MachineState → Event → Outcome → Next → Type 0
MaySee m (Step dev pick) o seen = MaySeeAt (slice_get m.devices dev) m.ram pick o seen
MaySee m e o seen = Unit {0}

-- An event with an outcome has this reply and this effect. The outcome is the one that the reply reports.
pub record HasEffect (m : MachineState) (e : Event) (o : Outcome) (reply : Reply) (effect : Effect) : Type 0 where
  pub seen : Next
  pub may_see : MaySee m e o seen
  pub reply_is : reply ≡ (answer m e o seen).reply
  pub effect_is : effect ≡ (answer m e o seen).effect
  pub outcome_is : outcome_of reply ≡ o

-- One step of a machine: an event with its outcome, the reply, and the machine after it, which is the old one with the effect
-- applied.
pub record IsStep (m : MachineState) (e : Event) (o : Outcome) (reply : Reply) (after : MachineState) : Type 0 where
  pub effect : Effect
  pub has : HasEffect m e o reply effect
  pub changed : after ≡ applied m effect

-- A step whose outcome is the one that the reply reports, and which items were touched: those that it writes into. What touching is,
-- as that a log has taken them in, `touches` says.
pub record IsTouchingStep (touches : List Item → Type 0) (m : MachineState) (e : Event) (reply : Reply) (after : MachineState) : Type 0 where
  pub effect : Effect
  pub has : HasEffect m e (outcome_of reply) reply effect
  pub changed : after ≡ applied m effect
  pub items_are : touches (items_of effect)
