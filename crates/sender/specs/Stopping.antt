-- The parts of a copy and of a stop.
use Rattle.std.specs.Prelude.{◌≡◌, ℕ, ◌+◌, ◌<◌, ◌≤◌, ◌^◌, if◌then◌else◌, List, Bool, true, false, Option, Some, None, Result, Ok, Err, length, min}
use Rattle.dirtylog.specs.Members.{has}
use Rattle.guestmem.specs.Item as items
use Rattle.machine.specs.Layout.{Layout, firsts_of, item_at, layout_of, size_of}
use Rattle.machine.specs.Seen.{Seen, state_of}
use Rattle.machine.specs.Sound.{IsSound}
use Rattle.wire.specs.Sinks.{Covers}
use Rattle.sender.specs.Calls.{AreSent, Fails, IsSent, IsUnread, StopsShort, Took, in_either}
use Rattle.sender.specs.LiveState.{LiveSeen, closing, item_of, last_round, now, pages_among, sectors_among}
use Rattle.sender.specs.declared.event.Item.{Item}
use Rattle.sender.specs.declared.event.Stopped.{Stopped}
use Rattle.sender.specs.declared.mig_error.MigError.{MigError}
use Rattle.sender.specs.declared.mig_error.MigError.TheVariants as errors
use Rattle.sender.specs.declared.phase.Phase.{Phase}
use Rattle.sender.specs.declared.phase.Phase.TheVariants as phases

-- The round's number is one that a record can encode.
abbrev pub RoundFits : Phase → Type 0
RoundFits (phases.Open round) = round ≤ last_round
RoundFits _ = Unit {0}

-- The sets of a migration, whether the RAM of its machine is lent or not: they have an entry for each item, of which there are fewer than
-- 2^64, and the log finds it. No item below `at` is due: the search for the next one starts there.
pub record SetsFit (l : Layout) (phase : Phase) (due dirty : List Bool) (firsts : List ℕ) (at : ℕ) : Type 0 where
  pub few : length due < 2 ^ 64
  pub due_size : length due ≡ size_of l
  pub dirty_size : length dirty ≡ size_of l
  pub firsts_are : firsts ≡ firsts_of l
  pub round : RoundFits phase
  pub reached : at ≤ length due
  pub passed : (k : ℕ) → k < at → has due k ≡ false

-- What holds of every machine that is being migrated.
pub record IsLive (machine : Seen) (phase : Phase) (due dirty : List Bool) (firsts : List ℕ) (at : ℕ) : Type 0 where
  pub sound : IsSound (state_of machine)
  pub sets : SetsFit (layout_of (state_of machine)) phase due dirty firsts at

-- The phase after sending an item failed with this error.
abbrev pub phase_after : Phase → MigError → Phase
phase_after p errors.StreamFailed = phases.Failed
phase_after p e = p

-- Sending one item, by its result.
pub record SendsOk (old : LiveSeen) (i : ℕ) (item : Item) (new : LiveSeen) : Type 0 where
  pub item_is : item_of item ≡ item_at (layout_of (now old)) i
  pub sent : IsSent old i new

pub record SendFails (old : LiveSeen) (i dev n : ℕ) (new : LiveSeen) : Type 0 where
  pub item_is : items.sector dev n ≡ item_at (layout_of (now old)) i
  pub unread : IsUnread old dev n new

abbrev pub SendsItem : LiveSeen → ℕ → Result Item MigError → LiveSeen → Type 0
SendsItem old i (Ok item) new = SendsOk old i item new
SendsItem old i (Err (errors.DiskFailed dev n)) new = SendFails old i dev n new
SendsItem old i (Err errors.StreamFailed) new = Fails old new
SendsItem old i (Err _) new = ⊥

-- All items of the two sets were sent.
pub record AllSent (old : LiveSeen) (pages sectors : ℕ) (new : LiveSeen) : Type 0 where
  pub are_sent : AreSent old (size_of (layout_of (now old))) new
  pub pages_are : pages ≡ pages_among (layout_of (now old)) (in_either old) (size_of (layout_of (now old)))
  pub sectors_are : sectors ≡ sectors_among (layout_of (now old)) (in_either old) (size_of (layout_of (now old)))

abbrev pub SendsAll : LiveSeen → Result Stopped MigError → LiveSeen → Type 0
SendsAll old (Ok s) new = AllSent old s.pages s.sectors new
SendsAll old (Err (errors.DiskFailed dev n)) new = StopsShort old dev n new
SendsAll old (Err errors.StreamFailed) new = Fails old new
SendsAll old (Err _) new = ⊥

-- The lesser of two numbers, of which each may be missing.
abbrev pub lesser : Option ℕ → Option ℕ → Option ℕ
lesser None b = b
lesser (Some a) None = Some a
lesser (Some a) (Some b) = Some (min a b)

-- A set has no member up to a number.
abbrev pub HasNoneUpTo : List Bool → ℕ → Type 0
HasNoneUpTo set n = (k : ℕ) → k ≤ n → has set k ≡ false

-- The stream was closed, and the writer flushed.
pub record IsClosed (old new : LiveSeen) : Type 0 where
  pub machine : new.machine ≡ old.machine
  pub phase : new.phase ≡ phases.Stopped
  pub due : new.due ≡ old.due
  pub dirty : new.dirty ≡ old.dirty
  pub count : new.out.failures ≡ old.out.failures
  pub flushed : new.out.is_flushed ≡ true
  pub took : (b : List ℕ) → Covers old.digest b → Took old new (closing (now old) b)

abbrev pub ClosesStream : {A : Type 0} → LiveSeen → Result A MigError → LiveSeen → Type 0
ClosesStream old (Ok x) new = IsClosed old new
ClosesStream old (Err errors.StreamFailed) new = Fails old new
ClosesStream old (Err _) new = ⊥

abbrev pub one_more : Stopped → Bool → Stopped
one_more s is_page = if is_page then record { pages = s.pages + 1; sectors = s.sectors } else record { pages = s.pages; sectors = s.sectors + 1 }
