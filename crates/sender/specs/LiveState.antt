-- The state of a machine that is being migrated, as contracts see it.
use Rattle.std.specs.Prelude.{◌≡◌, ℕ, zero, suc, ◌+◌, ◌<◌, ◌^◌, ◌++◌, ◌==◌, ◌&&◌, not, if◌then◌else◌, nat_lt, List, [], ◌∷◌, length, map, Bool, Option, Some, None}
use Rattle.sha2.specs.Sha256.{sha256}
use Rattle.guestmem.specs.Item as items
use Rattle.guestmem.specs.Memory.{Memory}
use Rattle.machine.specs.Layout.{Layout, item_at, layout_of, pages_of, size_of}
use Rattle.machine.specs.Seen.{SeenOver, state_of, with_ram}
use Rattle.machine.specs.Sound.{IsSound}
use Rattle.machine.specs.State.{MachineState}
use Rattle.wire.specs.Header.{header, opening_of}
use Rattle.wire.specs.Records.{Record, commit, spelled_record}
use Rattle.wire.specs.Sinks.{Digested, SinkState}
use Rattle.wire.specs.Stream.{device_texts, record_of, shapes_in}
use Rattle.sender.specs.declared.event.Item.{Item}
use Rattle.sender.specs.declared.event.Item.TheVariants.{Page, Sector}
use Rattle.sender.specs.declared.event.LiveEvent.{LiveEvent}
use Rattle.sender.specs.declared.event.LiveEvent.TheVariants.{Guest, Begin, EndRound}
use Rattle.sender.specs.declared.phase.Phase.{Phase}
use Rattle.sender.specs.declared.phase.Phase.TheVariants as phases
use Rattle.sender.specs.declared.mig_error.MigError.{MigError}
use Rattle.sender.specs.declared.mig_error.MigError.TheVariants.{AlreadyBegun, AlreadyStopped, NotBegun, RoundsEnded, StreamFailed}

-- The machine, its RAM here or lent, the phase of its migration, the items that are due and those that are dirty, the digest of what was
-- written, and the writer.
pub record LiveSeenOver (M : Type 0) : Type 0 where
  pub machine : SeenOver M
  pub phase : Phase
  pub due : List Bool
  pub dirty : List Bool
  pub digest : Digested
  pub out : SinkState

-- One whose RAM is here.
abbrev pub LiveSeen : Type 0
LiveSeen = LiveSeenOver Memory

-- What it is with this memory.
abbrev pub live_with : {M : Type 0} → LiveSeenOver M → Memory → LiveSeen
live_with l m = record { machine = with_ram l.machine m; phase = l.phase; due = l.due; dirty = l.dirty; digest = l.digest; out = l.out }

abbrev pub now : LiveSeen → MachineState
now s = state_of s.machine

-- The machine is sound, the sets have an entry for each item, and there are fewer than 2^64 items.
pub record HasPlaces (s : LiveSeen) : Type 0 where
  pub sound : IsSound (now s)
  pub few : length s.due < 2 ^ 64
  pub due_size : length s.due ≡ size_of (layout_of (now s))
  pub dirty_size : length s.dirty ≡ size_of (layout_of (now s))

-- The last round that can be numbered: it cannot be ended.
abbrev pub last_round : ℕ
last_round = 4294967295

-- Which phase refuses which event, before anything is done.
abbrev pub refusal_for : Phase → LiveEvent → Option MigError
refusal_for phases.Failed (Guest e) = None
refusal_for phases.Failed _ = Some StreamFailed
refusal_for phases.Stopped _ = Some AlreadyStopped
refusal_for phases.Fresh (Guest e) = None
refusal_for phases.Fresh Begin = None
refusal_for phases.Fresh _ = Some NotBegun
refusal_for (phases.Open k) Begin = Some AlreadyBegun
refusal_for (phases.Open k) EndRound = if k == last_round then Some RoundsEnded else None
refusal_for (phases.Open k) _ = None

-- The numbers below n that pass the test, ascending, and how many they are.
abbrev pub chosen : (ℕ → Bool) → ℕ → List ℕ
chosen p zero = []
chosen p (suc n) = chosen p n ++ (if p n then n ∷ [] else [])

abbrev pub how_many : (ℕ → Bool) → ℕ → ℕ
how_many p zero = 0
how_many p (suc n) = how_many p n + (if p n then 1 else 0)

-- How many of the items below n that pass the test are pages, and how many are sectors.
abbrev pub pages_among : Layout → (ℕ → Bool) → ℕ → ℕ
pages_among l p n = how_many (λ i. p i && nat_lt i l.pages) n

abbrev pub sectors_among : Layout → (ℕ → Bool) → ℕ → ℕ
sectors_among l p n = how_many (λ i. p i && not (nat_lt i l.pages)) n

-- The item that a reply names.
abbrev pub item_of : Item → items.Item
item_of (Page n) = items.page n
item_of (Sector dev n) = items.sector dev n

-- The record of the item with this number, and the records of several, with their content in the machine.
abbrev pub record_at : MachineState → ℕ → Record
record_at m i = record_of m (item_at (layout_of m) i)

abbrev pub records_of : MachineState → List ℕ → List Record
records_of m numbers = map (record_at m) numbers

abbrev pub header_of : MachineState → List ℕ
header_of m = header (opening_of (pages_of m) (shapes_in m.devices))

-- What closes a stream, by what was written before: the devices, and the digest of all.
abbrev pub closing : MachineState → List ℕ → List ℕ
closing m before = device_texts 0 m.devices ++ spelled_record (commit (sha256 (before ++ device_texts 0 m.devices)))
