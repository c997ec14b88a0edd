-- A step over a RAM of which only some pieces are those of the guest: a window, into which they were copied.
use Rattle.std.specs.Prelude.{◌≡◌, ℕ, Bool, false, List, [], length, Option, Some, None, slice_get, slice_set, if◌then◌else◌}
use Rattle.region.specs.Address.{address}
use Rattle.region.specs.declared.region.Region.{Region}
use Rattle.guestmem.specs.Item.{Item, after_all}
use Rattle.guestmem.specs.Later.{IsLater}
use Rattle.guestmem.specs.Lent.{IsLent, given_back}
use Rattle.guestmem.specs.Memory.{Memory}
use Rattle.guestmem.specs.Number.{IsBytes}
use Rattle.guestmem.specs.Rises.{Rises}
use Rattle.guestmem.specs.Writes.{set_all}
use Rattle.chains.specs.Footprint.{AgreeOn, Knows}
use Rattle.chains.specs.declared.lacking.Piece.{Piece}
use Rattle.chains.specs.declared.next.Next.{Next}
use Rattle.machine.specs.Applied.{IsApplied}
use Rattle.machine.specs.Effect.{Effect, Replacement, items_of}
use Rattle.machine.specs.Footprint.{Publishing, asks_at, has_published, publishing, raised, step_asks, step_reads, step_word}
use Rattle.machine.specs.Outcome.{Outcome, outcome_of}
use Rattle.machine.specs.Parked.{ParkedSeen, back_with}
use Rattle.machine.specs.Seen.{DeviceSeen, Seen, state_of}
use Rattle.machine.specs.State.{DeviceState, MachineState}
use Rattle.machine.specs.Step.{HasEffect, MaySee}
use Rattle.machine.specs.declared.event.Event.TheVariants.{Step}
use Rattle.machine.specs.declared.reply.Reply.{Reply}

-- The machine with this RAM.
abbrev pub with_ram : MachineState → List ℕ → MachineState
with_ram m ram = record m { ram = ram }

abbrev pub with_memory : Seen → Memory → Seen
with_memory m memory = record m { memory = memory }

-- A step has its effect on every machine whose RAM agrees with that of this one in what the step reads.
abbrev pub EffectsAreLocal : Type 0
EffectsAreLocal = (m : MachineState) (ram : List ℕ) (dev pick : ℕ) (o : Outcome) (reply : Reply) (f : Effect) (h : HasEffect m (Step dev pick) o reply f) → length m.ram ≡ length ram
    → AgreeOn m.ram ram (step_reads m dev pick o h.seen) → AgreeOn m.ram ram (step_word m dev pick h.seen reply) → HasEffect (with_ram m ram) (Step dev pick) o reply f

-- The effect, and an interrupt.
abbrev pub interrupting : Bool → Option Replacement → Option Replacement
interrupting due None = None
interrupting due (Some r) = Some (record { number = r.number; device = if due then raised r.device else r.device })

abbrev pub with_interrupt : Bool → Effect → Effect
with_interrupt due f = record f { replaced = interrupting due f.replaced }

-- Where the RAM agrees in all but the driver's word, and here that asks for no interrupt, it is this effect, with an interrupt if the word of
-- that RAM asks for one, once what the step writes is there.
abbrev pub WordIsLast : Type 0
WordIsLast = (m : MachineState) (ram : List ℕ) (dev pick : ℕ) (o : Outcome) (reply : Reply) (f : Effect) (h : HasEffect m (Step dev pick) o reply f) → length m.ram ≡ length ram
    → AgreeOn m.ram ram (step_reads m dev pick o h.seen) → step_asks m dev pick h.seen reply (set_all m.ram f.writes) ≡ false
    → HasEffect (with_ram m ram) (Step dev pick) o reply (with_interrupt (step_asks m dev pick h.seen reply (set_all ram f.writes)) f)

-- A RAM on which a step was made with this effect.
pub record IsWritten (f : Effect) (old new : Memory) : Type 0 where
  pub bytes : new.bytes ≡ set_all old.bytes f.writes
  pub later : IsLater old new
  pub rises : Rises (items_of f) old new

-- A step that was made with a window for RAM is that step of the machine with each RAM that agrees with the window in what the step reads.
abbrev pub AppliedIsLocal : Type 0
AppliedIsLocal = (old new : Seen) (dev pick : ℕ) (reply : Reply) (h : IsApplied old (Step dev pick) reply new) (ram after : Memory) → IsBytes ram.bytes → length old.memory.bytes ≡ length ram.bytes
    → AgreeOn old.memory.bytes ram.bytes (step_reads (state_of old) dev pick (outcome_of reply) h.has.seen) → AgreeOn old.memory.bytes ram.bytes (step_word (state_of old) dev pick h.has.seen reply)
    → IsWritten h.effect ram after → IsApplied (with_memory old ram) (Step dev pick) reply (with_memory new after)

-- The device of this number with the used-buffer interrupt raised.
abbrev pub seen_raised : DeviceSeen → DeviceSeen
seen_raised d = record d { state = raised d.state }

abbrev pub raised_in : List DeviceSeen → ℕ → Option DeviceSeen → List DeviceSeen
raised_in ds dev None = ds
raised_in ds dev (Some d) = slice_set ds dev (seen_raised d)

abbrev pub interrupted : Bool → ℕ → Seen → Seen
interrupted due dev m = if due then record m { devices = raised_in m.devices dev (slice_get m.devices dev) } else m

-- So where the word is read last.
abbrev pub AppliedWordIsLast : Type 0
AppliedWordIsLast = (old new : Seen) (dev pick : ℕ) (reply : Reply) (h : IsApplied old (Step dev pick) reply new) (ram after : Memory) → IsBytes ram.bytes → length old.memory.bytes ≡ length ram.bytes
    → AgreeOn old.memory.bytes ram.bytes (step_reads (state_of old) dev pick (outcome_of reply) h.has.seen)
    → step_asks (state_of old) dev pick h.has.seen reply (set_all old.memory.bytes h.effect.writes) ≡ false
    → IsWritten h.effect ram after → IsApplied (with_memory old ram) (Step dev pick) reply (interrupted (step_asks (state_of old) dev pick h.has.seen reply after.bytes) dev (with_memory new after))

-- Who holds these pieces of a machine's RAM knows what the step of this pick reads, whatever the device sees; and, besides, the driver's word.
abbrev pub KnowsReads : List Piece → MachineState → ℕ → ℕ → Type 0
KnowsReads held m dev pick = (o : Outcome) (seen : Next) → MaySee m (Step dev pick) o seen → Knows held m.ram (step_reads m dev pick o seen)

abbrev pub KnowsWord : List Piece → MachineState → ℕ → ℕ → Type 0
KnowsWord held m dev pick = (o : Outcome) (seen : Next) (reply : Reply) → MaySee m (Step dev pick) o seen → Knows held m.ram (step_word m dev pick seen reply)

-- A machine whose RAM is lent made a step, with a window for its RAM: it is that step of the machine with each RAM that agrees with the window
-- in these pieces, and RAM after it is that RAM with what the step writes.
abbrev pub IsSteppedBeside : ParkedSeen → List ℕ → List Piece → ℕ → ℕ → Reply → Effect → ParkedSeen → Type 0
IsSteppedBeside p window held dev pick reply effect next =
    (ram after : Memory) → IsBytes ram.bytes → length window ≡ length ram.bytes → AgreeOn window ram.bytes held → IsWritten effect ram after → IsApplied (back_with p ram) (Step dev pick) reply (back_with next after)

-- The same of a step that is open: what it writes is to be stored in RAM, and then the driver's word is read there, which says whether the
-- interrupt is raised.
abbrev pub IsSteppedOpen : ParkedSeen → List ℕ → List Piece → ℕ → ℕ → Reply → Effect → Option Publishing → ParkedSeen → Type 0
IsSteppedOpen p window held dev pick reply effect publishing next =
    (ram after : Memory) → IsBytes ram.bytes → length window ≡ length ram.bytes → AgreeOn window ram.bytes held → IsWritten effect ram after
    → IsApplied (back_with p ram) (Step dev pick) reply (interrupted (asks_at publishing after.bytes) dev (back_with next after))

-- What a step of a machine publishes, if its reply says that it does.
abbrev pub publishing_of : Option DeviceState → ℕ → Next → Reply → Option Publishing
publishing_of None pick seen reply = None
publishing_of (Some d) pick seen reply = if has_published reply then publishing d pick seen else None

abbrev pub step_publishing : MachineState → ℕ → ℕ → Next → Reply → Option Publishing
step_publishing m dev pick seen reply = publishing_of (slice_get m.devices dev) pick seen reply

-- A step that is made with the window as RAM is one beside the guest, where what it reads is held, with the word or, where the window asks for
-- no interrupt, without it.
abbrev pub HeldIsBeside : Type 0
HeldIsBeside = (p next : ParkedSeen) (window after : Memory) (held : List Piece) (dev pick : ℕ) (reply : Reply) (h : IsApplied (back_with p window) (Step dev pick) reply (back_with next after))
    → KnowsReads held (state_of (back_with p window)) dev pick → KnowsWord held (state_of (back_with p window)) dev pick → IsSteppedBeside p window.bytes held dev pick reply h.effect next

abbrev pub QuietIsOpen : Type 0
QuietIsOpen = (p next : ParkedSeen) (window after : Memory) (held : List Piece) (dev pick : ℕ) (reply : Reply) (h : IsApplied (back_with p window) (Step dev pick) reply (back_with next after))
    → KnowsReads held (state_of (back_with p window)) dev pick → asks_at (step_publishing (state_of (back_with p window)) dev pick h.has.seen reply) after.bytes ≡ false
    → IsSteppedOpen p window.bytes held dev pick reply h.effect (step_publishing (state_of (back_with p window)) dev pick h.has.seen reply) next

-- RAM with what a step writes, whose pages have these versions.
abbrev pub written_with : Memory → Effect → List ℕ → Memory
written_with ram f versions = record { bytes = set_all ram.bytes f.writes; versions = versions; place = ram.place }

-- There is such a RAM after each step: with the versions that the step left, if RAM had those that it found.
abbrev pub WrittenIsThere : Type 0
WrittenIsThere = (old new : Seen) (dev pick : ℕ) (reply : Reply) (h : IsApplied old (Step dev pick) reply new) (ram : Memory) → ram.versions ≡ old.memory.versions → IsWritten h.effect ram (written_with ram h.effect new.memory.versions)

-- The machine that was lent made the step, if its RAM is what the window is in these pieces: it has become this machine.
pub record IsStepOf (m : Seen) (dev pick : ℕ) (reply : Reply) (effect : Effect) (next : ParkedSeen) : Type 0 where
  pub after : Seen
  pub applied : IsApplied m (Step dev pick) reply after
  pub items : items_of applied.effect ≡ items_of effect
  pub bytes : after.memory.bytes ≡ set_all m.memory.bytes effect.writes
  pub versions : after.memory.versions ≡ next.memory
  pub devices : after.devices ≡ next.devices

abbrev pub BesideIsStep : Type 0
BesideIsStep = (m : Seen) (p next : ParkedSeen) (window after : Memory) (held : List Piece) (dev pick : ℕ) (reply : Reply) (h : IsApplied (back_with p window) (Step dev pick) reply (back_with next after))
    → IsBytes m.memory.bytes → m.devices ≡ p.devices → m.memory.versions ≡ window.versions → after.versions ≡ next.memory → length window.bytes ≡ length m.memory.bytes → AgreeOn window.bytes m.memory.bytes held
    → KnowsReads held (state_of (back_with p window)) dev pick → KnowsWord held (state_of (back_with p window)) dev pick → IsStepOf m dev pick reply h.effect next

-- A machine whose RAM is lent, once its open step is ended.
abbrev pub ended : Bool → ℕ → ParkedSeen → ParkedSeen
ended due dev p = if due then record p { devices = raised_in p.devices dev (slice_get p.devices dev) } else p

-- The same of a step that is open: the word is that of RAM, once what the step writes is there.
abbrev pub OpenIsStep : Type 0
OpenIsStep = (m : Seen) (p next : ParkedSeen) (window after : Memory) (held : List Piece) (dev pick : ℕ) (reply : Reply) (h : IsApplied (back_with p window) (Step dev pick) reply (back_with next after))
    → IsBytes m.memory.bytes → m.devices ≡ p.devices → m.memory.versions ≡ window.versions → after.versions ≡ next.memory → length window.bytes ≡ length m.memory.bytes → AgreeOn window.bytes m.memory.bytes held
    → KnowsReads held (state_of (back_with p window)) dev pick → asks_at (step_publishing (state_of (back_with p window)) dev pick h.has.seen reply) after.bytes ≡ false
    → IsStepOf m dev pick reply h.effect (ended (asks_at (step_publishing (state_of (back_with p window)) dev pick h.has.seen reply) (set_all m.memory.bytes h.effect.writes)) dev next)

-- The memory of a machine over a window.
abbrev pub window_memory : ParkedSeen → Region → Memory
window_memory p window = given_back window.content (address window) p.memory []

-- A machine whose RAM is lent made a step with this window for RAM, and the window was lent out again.
pub record IsMadeOver (p : ParkedSeen) (window : Region) (dev pick : ℕ) (reply : Reply) (left : Region) (next : ParkedSeen) : Type 0 where
  pub after : Memory
  pub applied : IsApplied (back_with p (window_memory p window)) (Step dev pick) reply (back_with next after)
  pub lent : IsLent after left next.memory

-- The same, and a log was told exactly what the step writes into.
pub record IsLoggedOver {L : Type 0} (taking : L → Item → L) (p : ParkedSeen) (window : Region) (log : L) (dev pick : ℕ) (reply : Reply) (left : Region) (next : ParkedSeen) (new_log : L) : Type 0 where
  pub made : IsMadeOver p window dev pick reply left next
  pub logged : new_log ≡ after_all taking log (items_of made.applied.effect)
