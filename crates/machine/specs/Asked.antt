-- What is known of a step before it is made: which word of the driver it reads last, and so what a host has to read that makes it beside the
-- guest.
use Rattle.std.specs.Prelude.{◌≡◌, ℕ, ◌+◌, ◌<◌, ◌&&◌, false, List, length, Option, Some, None, slice_get, slice_index, if◌then◌else◌}
use Rattle.guestmem.specs.Lent.{is_named}
use Rattle.guestmem.specs.Memory.{Memory}
use Rattle.chains.specs.Footprint.{AgreeOn, HoldsAt, event_piece, quiet_word}
use Rattle.chains.specs.Ring.{Answers}
use Rattle.chains.specs.State.{RingState}
use Rattle.chains.specs.declared.lacking.Piece.{Piece}
use Rattle.chains.specs.declared.next.Next.{Next}
use Rattle.blk.specs.declared.request.Request.{Request}
use Rattle.machine.specs.Applied.{IsApplied}
use Rattle.machine.specs.Beside.{KnowsReads, step_publishing}
use Rattle.machine.specs.DeviceStep.{looked_at}
use Rattle.machine.specs.Footprint.{Publishing, asks_at, has_published, publishing}
use Rattle.machine.specs.Parked.{ParkedSeen, back_with}
use Rattle.machine.specs.Seen.{state_of}
use Rattle.machine.specs.State.{DeviceState, MachineState}
use Rattle.machine.specs.Stored.{indexes_in, indexes_of}
use Rattle.machine.specs.declared.event.Event.TheVariants.{Step}
use Rattle.machine.specs.declared.reply.Reply.{Reply}

-- A word lies in this piece of RAM: its first bytes do, as many as the piece has.
abbrev pub IsWordAt : List ℕ → Piece → List ℕ → Type 0
IsWordAt ram p word = (k : ℕ) → k < p.count → slice_index ram (p.at + k) ≡ slice_index word k

-- The slots of the chain of a request, if there is one.
abbrev pub slots_in : Option Request → Option ℕ
slots_in None = None
slots_in (Some r) = Some r.slots

-- What the queue that a step looks at answers about its taking position, if the step looks at one.
abbrev pub MayAnswer : Option RingState → List ℕ → Next → Type 0
MayAnswer None ram answer = Unit {0}
MayAnswer (Some q) ram answer = Answers ram q answer

-- What a step of a device publishes, if it publishes a chain: by what its queue answers, also where the device cannot use that chain.
pub record IsAsking (d : DeviceState) (ram : List ℕ) (pick : ℕ) (asking : Option Publishing) : Type 0 where
  pub answer : Next
  pub answers : MayAnswer (looked_at d pick) ram answer
  pub is : asking ≡ publishing d pick answer

-- Of a machine.
abbrev pub AsksBy : Option DeviceState → List ℕ → ℕ → Option Publishing → Type 0
AsksBy None ram pick asking = asking ≡ None
AsksBy (Some d) ram pick asking = IsAsking d ram pick asking

abbrev pub StepAsks : MachineState → ℕ → ℕ → Option Publishing → Type 0
StepAsks m dev pick asking = AsksBy (slice_get m.devices dev) m.ram pick asking

-- RAM has the quiet word where the driver's word lies, if there is one.
abbrev pub IsQuietIn : Option Publishing → List ℕ → Type 0
IsQuietIn None ram = Unit {0}
IsQuietIn (Some p) ram = HoldsAt ram (event_piece p.ring).at (quiet_word p.ring)

-- No byte of the driver's word is at these indexes.
abbrev pub IsApart : Option Publishing → List ℕ → Type 0
IsApart None indexes = Unit {0}
IsApart (Some p) indexes = (k : ℕ) → k < (event_piece p.ring).count → is_named indexes ((event_piece p.ring).at + k) ≡ false

-- What a step publishes is what was known of it before, if its reply says that it published a chain.
abbrev pub AskingIsPublishing : Type 0
AskingIsPublishing = (p next : ParkedSeen) (window after : Memory) (dev pick : ℕ) (reply : Reply) (h : IsApplied (back_with p window) (Step dev pick) reply (back_with next after)) (asking : Option Publishing)
    → StepAsks (state_of (back_with p window)) dev pick asking → step_publishing (state_of (back_with p window)) dev pick h.has.seen reply ≡ (if has_published reply then asking else None)

-- So the driver's word in a RAM asks for an interrupt exactly where the step published a chain, and the word says so of what was known before.
abbrev pub AskedIsDue : Type 0
AskedIsDue = (p next : ParkedSeen) (window after : Memory) (dev pick : ℕ) (reply : Reply) (h : IsApplied (back_with p window) (Step dev pick) reply (back_with next after)) (asking : Option Publishing)
    → StepAsks (state_of (back_with p window)) dev pick asking → (ram : List ℕ) → asks_at (step_publishing (state_of (back_with p window)) dev pick h.has.seen reply) ram ≡ (has_published reply && asks_at asking ram)

-- A step that was made over a window with the quiet word, and wrote into no byte of that, has asked for no interrupt.
abbrev pub QuietIsKept : Type 0
QuietIsKept = (p next : ParkedSeen) (window after : Memory) (dev pick : ℕ) (reply : Reply) (h : IsApplied (back_with p window) (Step dev pick) reply (back_with next after)) (asking : Option Publishing)
    → StepAsks (state_of (back_with p window)) dev pick asking → IsQuietIn asking window.bytes → IsApart asking (indexes_in h.effect.writes)
    → asks_at (step_publishing (state_of (back_with p window)) dev pick h.has.seen reply) after.bytes ≡ false

-- What is known of a step over a window is known of it over each one that agrees with it in the pieces that are held.
abbrev pub HeldStaysKnown : Type 0
HeldStaysKnown = (p : ParkedSeen) (window other : Memory) (held : List Piece) (dev pick : ℕ) (asking : Option Publishing) → length window.bytes ≡ length other.bytes → AgreeOn window.bytes other.bytes held
    → KnowsReads held (state_of (back_with p window)) dev pick → StepAsks (state_of (back_with p window)) dev pick asking
    → KnowsReads held (state_of (back_with p other)) dev pick × StepAsks (state_of (back_with p other)) dev pick asking

-- So it is of a window into which the quiet word was put, where no piece that is held has a byte of it.
abbrev pub IsElsewhereSame : Option Publishing → List ℕ → List ℕ → Type 0
IsElsewhereSame None old new = new ≡ old
IsElsewhereSame (Some p) old new = (i : ℕ) → ((k : ℕ) → k < (event_piece p.ring).count → i ≡ (event_piece p.ring).at + k → ⊥) → slice_index old i ≡ slice_index new i

abbrev pub PutIsElsewhere : Type 0
PutIsElsewhere = (asking : Option Publishing) (old new : List ℕ) (held : List Piece) → IsElsewhereSame asking old new → IsApart asking (indexes_of held) → AgreeOn old new held
