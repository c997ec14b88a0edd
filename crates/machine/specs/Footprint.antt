-- Which bytes of RAM a step of a device reads: those of the look, of what it does with the chain that it sees there, and, if it publishes
-- a chain, the driver's word about interrupts, which it reads last, behind all that it writes.
use Rattle.std.specs.Prelude.{ℕ, suc, zero, ◌-◌, List, [], ◌∷◌, ◌++◌, drop, Bool, true, false, Option, Some, None, slice_get, if◌then◌else◌}
use Rattle.mmio.specs.State.{with_common}
use Rattle.mmio.specs.Interrupts.{used_raised}
use Rattle.chains.specs.Footprint.{event_piece, look_pieces, place_pieces}
use Rattle.chains.specs.Places.{places}
use Rattle.chains.specs.Publish.{after_take, is_interrupt_due}
use Rattle.chains.specs.State.{RingState}
use Rattle.chains.specs.declared.chain.Chain.{Chain}
use Rattle.chains.specs.declared.lacking.Piece.{Piece}
use Rattle.chains.specs.declared.next.Next.{Next}
use Rattle.chains.specs.declared.next.Next.TheVariants as next
use Rattle.blk.specs.Footprint.{advance_pieces, taken_pieces}
use Rattle.blk.specs.declared.request.Request.{Request}
use Rattle.console.specs.Transmit.{text_form}
use Rattle.net.specs.Transmit.{frame_form}
use Rattle.machine.specs.DeviceStep.{DeviceAnswer, advanced_at, looked_at, requests_of}
use Rattle.machine.specs.Outcome.{Outcome, fine}
use Rattle.machine.specs.State.{DeviceState, MachineState}
use Rattle.machine.specs.declared.kind.Kind.{Kind}
use Rattle.machine.specs.declared.kind.Kind.TheVariants.{Network, Block, Outside, Console, Entropy}
use Rattle.machine.specs.declared.reply.Reply.{Reply}
use Rattle.machine.specs.declared.reply.Reply.TheVariants.{Completed, Sent}

-- Of a chain that is seen in the queue of this number: the message that is sent, or the header of a request. What is received is only
-- written.
abbrev pub chain_reads : Kind → ℕ → ℕ → Chain → List Piece
chain_reads (Network mac inbox) zero base c = []
chain_reads (Network mac inbox) (suc number) base c = place_pieces base (drop (frame_form inbox.longest).header (places c.readable))
chain_reads (Console size held) zero base c = []
chain_reads (Console size held) (suc number) base c = place_pieces base (drop text_form.header (places c.readable))
chain_reads (Block block) number base c = taken_pieces base c
chain_reads (Outside block) number base c = taken_pieces base c
chain_reads (Entropy pool) number base c = []

abbrev pub seen_reads : Kind → ℕ → ℕ → Next → List Piece
seen_reads kind number base (next.Chain c) = chain_reads kind number base c
seen_reads kind number base _ = []

-- Of the request that this pick advances on a ring.
abbrev pub request_reads : Kind → ℕ → Option RingState → List Piece
request_reads kind k None = []
request_reads kind k (Some q) = advance_pieces q.base (slice_get (requests_of kind) k)

-- All but the word.
abbrev pub reads_at : DeviceState → List ℕ → ℕ → Option RingState → Outcome → Next → List Piece
reads_at d ram pick None o seen = request_reads d.kind (pick - 1) (advanced_at d pick)
reads_at d ram pick (Some q) fine seen = look_pieces ram q ++ seen_reads d.kind pick q.base seen
reads_at d ram pick (Some q) o seen = look_pieces ram q

abbrev pub device_reads : DeviceState → List ℕ → ℕ → Outcome → Next → List Piece
device_reads d ram pick o seen = reads_at d ram pick (looked_at d pick) o seen

-- The ring as it is when the step publishes a chain, and how many slots that chain has.
pub record Publishing : Type 0 where
  pub ring : RingState
  pub slots : ℕ

abbrev pub ending_on : RingState → Option Request → Option Publishing
ending_on q None = None
ending_on q (Some r) = Some (record { ring = q; slots = r.slots })

abbrev pub ending_at : Kind → ℕ → Option RingState → Option Publishing
ending_at kind k None = None
ending_at kind k (Some q) = ending_on q (slice_get (requests_of kind) k)

abbrev pub seen_on : RingState → Next → Option Publishing
seen_on q (next.Chain c) = Some (record { ring = after_take q c.slots; slots = c.slots })
seen_on q _ = None

abbrev pub publishing_by : DeviceState → ℕ → Option RingState → Next → Option Publishing
publishing_by d pick None seen = ending_at d.kind (pick - 1) (advanced_at d pick)
publishing_by d pick (Some q) seen = seen_on q seen

-- What a step publishes, if it is one that publishes a chain.
abbrev pub publishing : DeviceState → ℕ → Next → Option Publishing
publishing d pick seen = publishing_by d pick (looked_at d pick) seen

-- A step with this reply has published a chain.
abbrev pub has_published : Reply → Bool
has_published (Completed len) = true
has_published (Sent bytes) = true
has_published _ = false

-- The driver's word.
abbrev pub word_of : Option Publishing → List Piece
word_of None = []
word_of (Some p) = event_piece p.ring ∷ []

abbrev pub device_word : DeviceState → ℕ → Next → Reply → List Piece
device_word d pick seen reply = if has_published reply then word_of (publishing d pick seen) else []

-- Whether it asks for an interrupt, by RAM after all writes.
abbrev pub asks_at : Option Publishing → List ℕ → Bool
asks_at None ram = false
asks_at (Some p) ram = is_interrupt_due p.ring p.slots ram

abbrev pub asks_interrupt : DeviceState → ℕ → Next → Reply → List ℕ → Bool
asks_interrupt d pick seen reply ram = if has_published reply then asks_at (publishing d pick seen) ram else false

-- The used-buffer interrupt is raised.
abbrev pub raised : DeviceState → DeviceState
raised d = record d { registers = with_common d.registers (used_raised d.registers.common) }

abbrev pub raised_if : Bool → DeviceAnswer → DeviceAnswer
raised_if due a = record a { device = if due then raised a.device else a.device }

-- Of a machine.
abbrev pub reads_of : Option DeviceState → List ℕ → ℕ → Outcome → Next → List Piece
reads_of None ram pick o seen = []
reads_of (Some d) ram pick o seen = device_reads d ram pick o seen

abbrev pub step_reads : MachineState → ℕ → ℕ → Outcome → Next → List Piece
step_reads m dev pick o seen = reads_of (slice_get m.devices dev) m.ram pick o seen

abbrev pub word_by : Option DeviceState → ℕ → Next → Reply → List Piece
word_by None pick seen reply = []
word_by (Some d) pick seen reply = device_word d pick seen reply

abbrev pub step_word : MachineState → ℕ → ℕ → Next → Reply → List Piece
step_word m dev pick seen reply = word_by (slice_get m.devices dev) pick seen reply

abbrev pub asks_by : Option DeviceState → ℕ → Next → Reply → List ℕ → Bool
asks_by None pick seen reply ram = false
asks_by (Some d) pick seen reply ram = asks_interrupt d pick seen reply ram

abbrev pub step_asks : MachineState → ℕ → ℕ → Next → Reply → List ℕ → Bool
step_asks m dev pick seen reply ram = asks_by (slice_get m.devices dev) pick seen reply ram
