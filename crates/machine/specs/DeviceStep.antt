-- A step of a device: the queue that it looks at, and what it does with what it finds there.
use Rattle.std.specs.Prelude.{ℕ, zero, suc, ◌-◌, ◌==◌, ◌&&◌, nat_lt, not, Bool, true, false, List, [], length, Option, Some, None, slice_get, slice_set, if◌then◌else◌}
use Rattle.guestmem.specs.Writes.{Write}
use Rattle.mmio.specs.State.{Registers, with_common, queue_at}
use Rattle.mmio.specs.Status.{is_running}
use Rattle.mmio.specs.Interrupts.{used_raised, reset_asked}
use Rattle.mmio.specs.QueueRegisters.{notified_cleared}
use Rattle.mmio.specs.declared.queue.Queue.{Queue}
use Rattle.chains.specs.State.{RingState, state_of}
use Rattle.chains.specs.Served.{MayRefuse}
use Rattle.chains.specs.Service.{Answer, Deed, Service, with_state}
use Rattle.chains.specs.Service as service
use Rattle.chains.specs.Transmit.{transmit_step}
use Rattle.chains.specs.Look.{Sees}
use Rattle.chains.specs.declared.looking.Wanted.{Wanted}
use Rattle.chains.specs.declared.looking.Wanted.TheVariants as wanted
use Rattle.chains.specs.declared.next.Next.{Next}
use Rattle.chains.specs.declared.position.Positions.{Positions}
use Rattle.blk.specs.Advance.{AdvanceStep, advance_step}
use Rattle.blk.specs.Block.{has_room}
use Rattle.blk.specs.Outside.{Failed, awaits_at, outside_step}
use Rattle.blk.specs.Move.{SectorSet}
use Rattle.blk.specs.Sectors.{Sector}
use Rattle.blk.specs.Take.{take_step}
use Rattle.blk.specs.declared.advancing.Advanced.{Advanced}
use Rattle.blk.specs.declared.block.Block as blocks
use Rattle.blk.specs.declared.advancing.Advanced.TheVariants as advanced
use Rattle.blk.specs.declared.request.Request.{Request}
use Rattle.blk.specs.declared.request.TheConstants.{HEADER_SIZE}
use Rattle.console.specs.Receive as console
use Rattle.console.specs.Transmit.{text_form}
use Rattle.net.specs.Inbox.{Inbox}
use Rattle.net.specs.Receive as net
use Rattle.net.specs.Transmit.{frame_form}
use Rattle.machine.specs.Outcome.{Outcome, fine, disk_failed, no_memory, disk_does}
use Rattle.machine.specs.State.{DeviceState}
use Rattle.machine.specs.declared.kind.Kind.{Kind}
use Rattle.machine.specs.declared.kind.Kind.TheVariants.{Network, Block, Outside, Console, Entropy}
use Rattle.machine.specs.declared.reply.Reply.{Reply}
use Rattle.machine.specs.declared.reply.Reply.TheVariants.{Idle, Moved, BadSector, DiskFailed, Completed, Sent, Dropped, NeedsReset, NoMemory}
use Rattle.machine.specs.declared.reply.Reply.TheVariants as replies

-- A device has something to do at its queue of this number. At queue 0 a network device has a frame to deliver, and a console
-- has input; at queue 1 both always have (VIRTIO 1.2, 5.1.6 and 5.3.6). A block device has room for one more request (5.2.6),
-- and an entropy device has bytes in its pool (5.4.6).
abbrev pub has_work : Kind → ℕ → Bool
has_work (Network mac inbox) zero = not (length inbox.frames == 0)
has_work (Network mac inbox) (suc number) = true
has_work (Console size held) zero = not (length held == 0)
has_work (Console size held) (suc number) = true
has_work (Block block) number = has_room block
has_work (Outside block) number = has_room block
has_work (Entropy pool) number = not (length pool == 0)

-- A step looks at a queue exactly if DRIVER_OK is set and DEVICE_NEEDS_RESET is not, the queue is ready and notified, and the
-- device has something to do there (VIRTIO 1.2, 2.1.2).
abbrev pub looks : DeviceState → ℕ → Queue → Bool
looks d number q = is_running d.registers.common && q.is_ready && q.is_notified && has_work d.kind number

abbrev pub looked_by : DeviceState → ℕ → Option Queue → Option Positions → Option RingState
looked_by d number (Some q) (Some p) = if looks d number q then Some (state_of q d.registers.common.features d.registers.ram_base p) else None
looked_by d number q p = None

-- The ring that a step with this pick looks at, if any: that of the queue whose number is the pick.
abbrev pub looked_at : DeviceState → ℕ → Option RingState
looked_at d pick = looked_by d pick (queue_at d.registers pick) (slice_get d.positions pick)

-- The chains that a device can use in its queue of this number. A network device and a console fill those of queue 0, and send
-- the messages of those of queue 1: frames, and text. A block device takes requests, and an entropy device fills its chains.
abbrev pub wanted_of : Kind → ℕ → Wanted
wanted_of (Network mac inbox) zero = wanted.Room
wanted_of (Network mac inbox) (suc number) = wanted.Message (frame_form inbox.longest)
wanted_of (Console size held) zero = wanted.Room
wanted_of (Console size held) (suc number) = wanted.Message text_form
wanted_of (Block block) number = wanted.Request HEADER_SIZE
wanted_of (Outside block) number = wanted.Request HEADER_SIZE
wanted_of (Entropy pool) number = wanted.Room

-- What a look at a queue may see: with the outcome `fine`, what a device that wants such chains sees there. The disk does not
-- fail in a look.
abbrev pub MayLookAt : Wanted → RingState → List ℕ → Outcome → Next → Type 0
MayLookAt want q ram fine seen = Sees want ram q seen
MayLookAt want q ram disk_failed seen = ⊥
MayLookAt want q ram no_memory seen = MayRefuse want ram q

abbrev pub MayLook : Wanted → Option RingState → List ℕ → Outcome → Next → Type 0
MayLook want None ram o seen = Unit {0}
MayLook want (Some q) ram o seen = MayLookAt want q ram o seen

-- The outstanding requests of a device: only a block device has any.
abbrev pub requests_of : Kind → List Request
requests_of (Block block) = block.requests
requests_of (Outside block) = block.requests
requests_of _ = []

-- A device of this kind has its disk outside.
abbrev pub is_outside : Kind → Bool
is_outside (Outside block) = true
is_outside _ = false

-- The k-th outstanding request, from 0, waits for a disk outside: no step advances it before the host has answered for the disk.
abbrev pub waits_outside : Kind → ℕ → Bool
waits_outside (Outside block) k = awaits_at block.requests k Failed
waits_outside _ k = false

-- There is a k-th outstanding request, from 0, and it waits for no disk outside.
abbrev pub can_advance : Kind → ℕ → Bool
can_advance kind k = nat_lt k (length (requests_of kind)) && not (waits_outside kind k)

-- With DRIVER_OK set and DEVICE_NEEDS_RESET not, a step whose pick is n > 0 advances the n-th outstanding request, counted from
-- 1 in the order of taking, if there is one (VIRTIO 1.2, 5.2.6) that waits for no disk outside.
abbrev pub advances : DeviceState → ℕ → Bool
advances d pick = is_running d.registers.common && nat_lt 0 pick && can_advance d.kind (pick - 1)

abbrev pub advanced_by : DeviceState → ℕ → Option Queue → Option Positions → Option RingState
advanced_by d pick (Some q) (Some p) = if advances d pick then Some (state_of q d.registers.common.features d.registers.ram_base p) else None
advanced_by d pick q p = None

-- The ring on which the request of a pick is published, if there is such a request: that of queue 0.
abbrev pub advanced_at : DeviceState → ℕ → Option RingState
advanced_at d pick = advanced_by d pick (queue_at d.registers 0) (slice_get d.positions 0)

-- A network device with these frames in its inbox.
abbrev pub network_with : List ℕ → Inbox → List (List ℕ) → Kind
network_with mac inbox frames = Network mac (record inbox { frames = frames })

-- Serving the queue of this number, given the features that the driver accepted and what the device sees there.
abbrev pub serve : ℕ → Kind → ℕ → List ℕ → RingState → Next → Service Kind
serve features (Network mac inbox) zero ram q seen = with_state (network_with mac inbox) (net.receive_step ram q inbox.frames seen)
serve features (Network mac inbox) (suc number) ram q seen = transmit_step (frame_form inbox.longest) ram q (Network mac inbox) seen
serve features (Console size held) zero ram q seen = with_state (Console size) (console.receive_step ram q held seen)
serve features (Console size held) (suc number) ram q seen = transmit_step text_form ram q (Console size held) seen
serve features (Block block) number ram q seen = with_state Block (take_step features ram q block seen)
serve features (Outside block) number ram q seen = with_state Outside (take_step features ram q block seen)
serve features (Entropy pool) number ram q seen = with_state Entropy (console.receive_step ram q pool seen)

-- The reply to a step that did this with a chain.
abbrev pub reply_to : Deed → Reply
reply_to service.Taken = replies.Taken
reply_to (service.Completed len) = Completed len
reply_to (service.Sent sent) = Sent sent
reply_to service.Dropped = Dropped

abbrev pub reply_of : Answer → Reply
reply_of service.Empty = Idle
reply_of service.Malformed = NeedsReset
reply_of (service.Did deed is_due) = reply_to deed

-- The registers after a queue was served: for an empty queue the notified flag is cleared, a malformed chain makes the device
-- ask for a reset, and else the used-buffer interrupt is raised if it is due.
abbrev pub registers_after : Registers → ℕ → Answer → Registers
registers_after r pick service.Empty = notified_cleared r pick (queue_at r pick)
registers_after r pick service.Malformed = with_common r (reset_asked r.common)
registers_after r pick (service.Did deed is_due) = if is_due then with_common r (used_raised r.common) else r

-- The result of a step of a device: the reply, the bytes that it writes, the sectors of its disk that it sets, and the device
-- after it.
pub record DeviceAnswer : Type 0 where
  pub reply : Reply
  pub writes : List Write
  pub sets : List SectorSet
  pub device : DeviceState

abbrev pub unmoved : DeviceState → Reply → DeviceAnswer
unmoved d reply = record { reply = reply; writes = []; sets = []; device = d }

abbrev pub after_service : DeviceState → ℕ → Service Kind → DeviceState
after_service d pick s = record d {
  registers = registers_after d.registers pick s.answer;
  positions = slice_set d.positions pick (record { taking = s.ring.taking; used = s.ring.used });
  kind = s.state;
}

abbrev pub after_serving : DeviceState → ℕ → Service Kind → DeviceAnswer
after_serving d pick s = record { reply = reply_of s.answer; writes = s.writes; sets = []; device = after_service d pick s }

abbrev pub reply_to_advance : Advanced → Reply
reply_to_advance advanced.Idle = Idle
reply_to_advance advanced.Moved = Moved
reply_to_advance advanced.BadSector = BadSector
reply_to_advance advanced.DiskFailed = DiskFailed
reply_to_advance (advanced.Completed len is_due) = Completed len

abbrev pub is_advance_due : Advanced → Bool
is_advance_due (advanced.Completed len is_due) = is_due
is_advance_due _ = false

-- A request was advanced: the ring's positions become those of queue 0, and the used-buffer interrupt is raised if a chain was
-- published and the interrupt is due. `kind` says which kind of device it is.
abbrev pub after_advance : (blocks.Block → Kind) → DeviceState → AdvanceStep → DeviceState
after_advance kind d s = record d {
  registers = if is_advance_due s.answer then with_common d.registers (used_raised d.registers.common) else d.registers;
  positions = slice_set d.positions 0 (record { taking = s.ring.taking; used = s.ring.used });
  kind = kind s.block;
}

abbrev pub after_advancing : (blocks.Block → Kind) → DeviceState → AdvanceStep → DeviceAnswer
after_advancing kind d s = record { reply = reply_to_advance s.answer; writes = s.writes; sets = s.sets; device = after_advance kind d s }

-- Advances the outstanding request that this pick names, on this ring. Only a block device has any. One whose disk is outside asks nothing of
-- it: its request does not wait.
abbrev pub advance_on : DeviceState → Kind → List ℕ → List Sector → ℕ → RingState → Outcome → DeviceAnswer
advance_on d (Block block) ram content pick q o = after_advancing Block d (advance_step ram q content block (pick - 1) (disk_does o))
advance_on d (Outside block) ram content pick q o = after_advancing Outside d (outside_step ram q block (pick - 1))
advance_on d kind ram content pick q o = unmoved d Idle

-- A step that looks at no queue, given the ring of the request that it advances. Without one it is idle.
abbrev pub advance_at : DeviceState → List ℕ → List Sector → ℕ → Option RingState → Outcome → DeviceAnswer
advance_at d ram content pick None o = unmoved d Idle
advance_at d ram content pick (Some q) o = advance_on d d.kind ram content pick q o

-- A look at the next chain of a ring, given the outcome and what the device sees there.
abbrev pub looked_step : DeviceState → List ℕ → ℕ → RingState → Outcome → Next → DeviceAnswer
looked_step d ram pick q no_memory seen = unmoved d NoMemory
looked_step d ram pick q disk_failed seen = unmoved d Idle
looked_step d ram pick q fine seen = after_serving d pick (serve d.registers.common.features d.kind pick ram q seen)

-- A step of a device whose disk has these sectors, given the ring that it looks at, if any, the outcome, and what the device
-- sees there.
abbrev pub step_at : DeviceState → List ℕ → List Sector → ℕ → Option RingState → Outcome → Next → DeviceAnswer
step_at d ram content pick None o seen = advance_at d ram content pick (advanced_at d pick) o
step_at d ram content pick (Some q) o seen = looked_step d ram pick q o seen

unfoldable pub device_step : DeviceState → List ℕ → List Sector → ℕ → Outcome → Next → DeviceAnswer
device_step d ram content pick o seen = step_at d ram content pick (looked_at d pick) o seen
