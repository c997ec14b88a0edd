-- Whether pieces of RAM share a byte; and what follows for a step over a window: whether it may be made while the window has a quiet word.
use Rattle.std.specs.Prelude.{◌≡◌, ℕ, ◌+◌, ◌<◌, Bool, true, false, List, [], ◌∷◌, ◌++◌, length, Option, None, if◌then◌else◌}
use Rattle.guestmem.specs.Lent.{is_named}
use Rattle.guestmem.specs.Memory.{Memory}
use Rattle.guestmem.specs.Number.{IsBytes}
use Rattle.guestmem.specs.Writes.{set_all}
use Rattle.chains.specs.Footprint.{AgreeOn, Knows, place_pieces}
use Rattle.chains.specs.Places.{places}
use Rattle.chains.specs.State.{RingState}
use Rattle.chains.specs.declared.lacking.Piece.{Piece}
use Rattle.machine.specs.Applied.{IsApplied}
use Rattle.machine.specs.Asked.{IsApart, IsElsewhereSame, IsQuietIn, StepAsks}
use Rattle.machine.specs.Beside.{IsStepOf, IsSteppedBeside, IsSteppedOpen, KnowsReads, ended}
use Rattle.machine.specs.Footprint.{Publishing, asks_at, has_published, word_of}
use Rattle.machine.specs.Parked.{ParkedSeen, back_with}
use Rattle.machine.specs.Seen.{Seen, state_of}
use Rattle.machine.specs.Stored.{indexes_of}
use Rattle.machine.specs.Writing.{StepStores, Writing, an_empty, last_pieces, segments_of, writing_base}
use Rattle.machine.specs.declared.event.Event.TheVariants.{Step}
use Rattle.machine.specs.declared.reply.Reply.{Reply}

-- The pieces into which a step may write, whatever its reply.
abbrev pub reach_of : Writing → List Piece
reach_of w = place_pieces (writing_base w) (places (segments_of w)) ++ last_pieces w

-- A byte of a piece is at one of these indexes; or none is.
pub record IsShared (indexes : List ℕ) (p : Piece) : Type 0 where
  pub k : ℕ
  pub below : k < p.count
  pub there : is_named indexes (p.at + k) ≡ true

abbrev pub IsClear : List ℕ → Piece → Type 0
IsClear indexes p = (k : ℕ) → k < p.count → is_named indexes (p.at + k) ≡ false

abbrev pub TellsShared : List ℕ → Piece → Bool → Type 0
TellsShared indexes p true = IsShared indexes p
TellsShared indexes p false = IsClear indexes p

-- What a host knows of a step over a window by the calls that ask for nothing but what the window holds: these pieces are all that the step
-- reads, this is what it publishes, and this is what it writes by.
pub record IsKnownOver (p : ParkedSeen) (window : Memory) (held : List Piece) (dev pick : ℕ) (asking : Option Publishing) (w : Writing) : Type 0 where
  pub reads : KnowsReads held (state_of (back_with p window)) dev pick
  pub asks : StepAsks (state_of (back_with p window)) dev pick asking
  pub stores : StepStores (state_of (back_with p window)) dev pick w

-- The quiet word was put into a window in which the driver's word lies apart from all that is held, and from all into which the step may write.
pub record IsPutApart (window quiet : List ℕ) (held : List Piece) (asking : Option Publishing) (w : Writing) : Type 0 where
  pub long : length window ≡ length quiet
  pub elsewhere : IsElsewhereSame asking window quiet
  pub quietly : IsQuietIn asking quiet
  pub unheld : IsApart asking (indexes_of held)
  pub unwritten : IsApart asking (indexes_of (reach_of w))

-- What a step with this reply publishes.
abbrev pub published_by : Reply → Option Publishing → Option Publishing
published_by reply asking = if has_published reply then asking else None

-- Such a step is open: it is ended by the driver's word, once all that it writes is in RAM.
abbrev pub ApartIsOpen : Type 0
ApartIsOpen = (p next : ParkedSeen) (window quiet after : Memory) (held : List Piece) (dev pick : ℕ) (asking : Option Publishing) (w : Writing) (reply : Reply)
    (h : IsApplied (back_with p quiet) (Step dev pick) reply (back_with next after))
    → IsKnownOver p window held dev pick asking w → IsPutApart window.bytes quiet.bytes held asking w
    → IsSteppedOpen p window.bytes held dev pick reply h.effect (published_by reply asking) next

-- So it is a step of the machine that was lent.
abbrev pub ApartIsStep : Type 0
ApartIsStep = (m : Seen) (p next : ParkedSeen) (window quiet after : Memory) (held : List Piece) (dev pick : ℕ) (asking : Option Publishing) (w : Writing) (reply : Reply)
    (h : IsApplied (back_with p quiet) (Step dev pick) reply (back_with next after))
    → IsBytes m.memory.bytes → m.devices ≡ p.devices → m.memory.versions ≡ quiet.versions → after.versions ≡ next.memory → length window.bytes ≡ length m.memory.bytes → AgreeOn window.bytes m.memory.bytes held
    → IsKnownOver p window held dev pick asking w → IsPutApart window.bytes quiet.bytes held asking w
    → IsStepOf m dev pick reply h.effect (ended (asks_at (published_by reply asking) (set_all m.memory.bytes h.effect.writes)) dev next)

-- A step whose word is known by the pieces that are held is closed at once, whatever its reply.
abbrev pub HeldWordIsClosed : Type 0
HeldWordIsClosed = (p next : ParkedSeen) (window after : Memory) (held : List Piece) (dev pick : ℕ) (asking : Option Publishing) (reply : Reply)
    (h : IsApplied (back_with p window) (Step dev pick) reply (back_with next after))
    → KnowsReads held (state_of (back_with p window)) dev pick → StepAsks (state_of (back_with p window)) dev pick asking → Knows held window.bytes (word_of asking)
    → IsSteppedBeside p window.bytes held dev pick reply h.effect next

abbrev pub HeldWordIsStep : Type 0
HeldWordIsStep = (m : Seen) (p next : ParkedSeen) (window after : Memory) (held : List Piece) (dev pick : ℕ) (asking : Option Publishing) (reply : Reply)
    (h : IsApplied (back_with p window) (Step dev pick) reply (back_with next after))
    → IsBytes m.memory.bytes → m.devices ≡ p.devices → m.memory.versions ≡ window.versions → after.versions ≡ next.memory → length window.bytes ≡ length m.memory.bytes → AgreeOn window.bytes m.memory.bytes held
    → KnowsReads held (state_of (back_with p window)) dev pick → StepAsks (state_of (back_with p window)) dev pick asking → Knows held window.bytes (word_of asking)
    → IsStepOf m dev pick reply h.effect next

-- A step that finds its queue empty is the step of every machine whose RAM has, in the one piece by which the queue is empty, what the window
-- has there. So it is that of the machine at the moment at which this piece was read again.
abbrev pub EmptyIsClosed : Type 0
EmptyIsClosed = (p next : ParkedSeen) (window after : Memory) (dev pick : ℕ) (q : RingState) (first : Piece) (reply : Reply) (h : IsApplied (back_with p window) (Step dev pick) reply (back_with next after))
    → StepStores (state_of (back_with p window)) dev pick (an_empty q first) → IsSteppedBeside p window.bytes (first ∷ []) dev pick reply h.effect next

abbrev pub EmptyIsStep : Type 0
EmptyIsStep = (m : Seen) (p next : ParkedSeen) (window after : Memory) (dev pick : ℕ) (q : RingState) (first : Piece) (reply : Reply) (h : IsApplied (back_with p window) (Step dev pick) reply (back_with next after))
    → IsBytes m.memory.bytes → m.devices ≡ p.devices → m.memory.versions ≡ window.versions → after.versions ≡ next.memory → length window.bytes ≡ length m.memory.bytes → AgreeOn window.bytes m.memory.bytes (first ∷ [])
    → StepStores (state_of (back_with p window)) dev pick (an_empty q first) → IsStepOf m dev pick reply h.effect next
