-- How often the calls of a machine that is being migrated call its disks. What they do beside that is in `Calls`.
use Rattle.std.specs.Prelude.{◌≡◌, ℕ, zero, suc, ◌+◌, ◌<◌, ◌≤◌, Bool, true, false, List, [], ◌∷◌, length, Option, Some, None, Result, Ok, Err, MatchOption, if◌then◌else◌}
use Rattle.dirtylog.specs.Members.{IsLeast}
use Rattle.blk.specs.Sectors.{Sector}
use Rattle.guestmem.specs.Item as items
use Rattle.machine.specs.Calls.{HasCalled}
use Rattle.machine.specs.EffectLaws.{sector_on, sectors_on}
use Rattle.machine.specs.Layout.{item_at, layout_of, pages_of, size_of}
use Rattle.machine.specs.Seen.{Seen, all_calls, called_at, state_of}
use Rattle.machine.specs.State.{MachineState}
use Rattle.machine.specs.declared.event.Event.{Event}
use Rattle.sender.specs.Calls.{IsSameButCalls, in_either}
use Rattle.sender.specs.Items.{sectors_before}
use Rattle.sender.specs.LiveState.{LiveSeen, chosen, now, refusal_for}
use Rattle.sender.specs.Uncalled.{CallsNone}
use Rattle.sender.specs.declared.event.LiveEvent.{LiveEvent}
use Rattle.sender.specs.declared.event.LiveEvent.TheVariants.{Guest, Begin, Copy, EndRound, Stop}
use Rattle.sender.specs.declared.event.LiveReply.{LiveReply}
use Rattle.sender.specs.declared.event.LiveReply.TheVariants as r
use Rattle.sender.specs.declared.event.Stopped.{Stopped}
use Rattle.sender.specs.declared.mig_error.MigError.{MigError}
use Rattle.sender.specs.declared.mig_error.MigError.TheVariants as errors

abbrev pub is_good : Option Sector → Bool
is_good None = false
is_good (Some None) = false
is_good (Some (Some bytes)) = true

-- The counts of the disks' calls once an item was read: a page is in RAM, a bad sector is not read, and a good one is read by one call of
-- its disk. `called` is what one more call makes of a count.
abbrev pub after_read : (ℕ → ℕ) → MachineState → items.Item → List (Option ℕ) → List (Option ℕ)
after_read called m (items.page n) calls = calls
after_read called m (items.sector dev n) calls = if is_good (sector_on (sectors_on m dev) n) then called_at called calls dev else calls

-- The same of the items with these numbers, one after another.
abbrev pub after_reads : (ℕ → ℕ) → MachineState → List ℕ → List (Option ℕ) → List (Option ℕ)
after_reads called m [] calls = calls
after_reads called m (i ∷ is) calls = after_reads called m is (after_read called m (item_at (layout_of m) i) calls)

-- This item was read, and no other.
abbrev pub ReadsItem : (ℕ → ℕ) → Seen → items.Item → Seen → Type 0
ReadsItem called old item new = all_calls new ≡ after_read called (state_of old) item (all_calls old)

-- The items of the two sets below a number were read, each once, and no other.
abbrev pub ReadsBelow : (ℕ → ℕ) → LiveSeen → ℕ → LiveSeen → Type 0
ReadsBelow called old to new = all_calls new.machine ≡ after_reads called (now old) (chosen (in_either old) to) (all_calls old.machine)

-- The least due item was read, and no other.
pub record ReadsLeast (called : ℕ → ℕ) (old new : LiveSeen) : Type 0 where
  pub number : ℕ
  pub least : IsLeast old.due 0 number
  pub reads : ReadsItem called old.machine (item_at (layout_of (now old)) number) new.machine

-- The items of the two sets up to this sector were read.
pub record ReadsUpTo (called : ℕ → ℕ) (old : LiveSeen) (dev n : ℕ) (new : LiveSeen) : Type 0 where
  pub number : ℕ
  pub below : number < size_of (layout_of (now old))
  pub item_is : items.sector dev n ≡ item_at (layout_of (now old)) number
  pub reads : ReadsBelow called old (number + 1) new

-- The items of the two sets up to some item were read.
pub record ReadsSome (called : ℕ → ℕ) (old new : LiveSeen) : Type 0 where
  pub to : ℕ
  pub within : to ≤ size_of (layout_of (now old))
  pub reads : ReadsBelow called old to new

-- An event of the guest calls what its step calls.
abbrev pub GuestCalls : (ℕ → ℕ) → LiveSeen → Event → LiveReply → LiveSeen → Type 0
GuestCalls called old e (r.Guest reply) new = HasCalled called old.machine e reply new.machine
GuestCalls called old e _ new = CallsNone old.machine new.machine

-- A copy reads the least due item, also where the disk fails, or the writer does after it.
abbrev pub CopyCalls : (ℕ → ℕ) → LiveSeen → LiveReply → LiveSeen → Type 0
CopyCalls called old r.RoundDone new = CallsNone old.machine new.machine
CopyCalls called old _ new = ReadsLeast called old new

-- Where a disk fails, the items up to the sector that is named were read; and where the writer fails, those up to the item that it failed
-- at, or all.
abbrev pub FailedCalls : (ℕ → ℕ) → LiveSeen → MigError → LiveSeen → Type 0
FailedCalls called old (errors.DiskFailed dev n) new = ReadsUpTo called old dev n new
FailedCalls called old _ new = ReadsSome called old new

-- A stop reads each item of the two sets once.
abbrev pub StopCalls : (ℕ → ℕ) → LiveSeen → LiveReply → LiveSeen → Type 0
StopCalls called old (r.Stopped pages sectors) new = ReadsBelow called old (size_of (layout_of (now old))) new
StopCalls called old (r.Mig e) new = FailedCalls called old e new
StopCalls called old _ new = CallsNone old.machine new.machine

-- The calls of disks that each call has made, by its event and its reply. A copy and a stop that their phase refuses have made none.
abbrev pub HasLiveCalled : (ℕ → ℕ) → LiveSeen → LiveEvent → LiveReply → LiveSeen → Type 0
HasLiveCalled called old (Guest e) reply new = GuestCalls called old e reply new
HasLiveCalled called old Begin reply new = CallsNone old.machine new.machine
HasLiveCalled called old Copy reply new = MatchOption (refusal_for old.phase Copy) (CopyCalls called old reply new) (λ x. CallsNone old.machine new.machine)
HasLiveCalled called old EndRound reply new = CallsNone old.machine new.machine
HasLiveCalled called old Stop reply new = MatchOption (refusal_for old.phase Stop) (StopCalls called old reply new) (λ x. CallsNone old.machine new.machine)

-- The part of a stop that sends the items.
abbrev pub SendCalls : (ℕ → ℕ) → LiveSeen → Result Stopped MigError → LiveSeen → Type 0
SendCalls called old (Ok sent) new = ReadsBelow called old (size_of (layout_of (now old))) new
SendCalls called old (Err e) new = FailedCalls called old e new

-- The counts once n items were read, from the item with number `first` on.
unfoldable pub after_items : (ℕ → ℕ) → MachineState → ℕ → ℕ → List (Option ℕ) → List (Option ℕ)
after_items called m first zero calls = calls
after_items called m first (suc n) calls = after_read called m (item_at (layout_of m) (first + n)) (after_items called m first n calls)

abbrev pub ReadsItems : (ℕ → ℕ) → Seen → ℕ → ℕ → Seen → Type 0
ReadsItems called old first n new = all_calls new ≡ after_items called (state_of old) first n (all_calls old)

pub record ReadsPart (called : ℕ → ℕ) (old : Seen) (first n : ℕ) (new : Seen) : Type 0 where
  pub count : ℕ
  pub within : count ≤ n
  pub reads : ReadsItems called old first count new

-- These items were read, each once, and no other; where that failed, the first ones of them.
abbrev pub ReadsFrom : {A : Type 0} → (ℕ → ℕ) → Seen → ℕ → ℕ → Result A MigError → Seen → Type 0
ReadsFrom called old first n (Ok x) new = ReadsItems called old first n new
ReadsFrom called old first n (Err e) new = ReadsPart called old first n new

-- A save reads each sector of each disk.
abbrev pub SaveCalls : {A : Type 0} → (ℕ → ℕ) → Seen → Result A MigError → Seen → Type 0
SaveCalls called old result new = ReadsFrom called old (pages_of (state_of old)) (sectors_before (state_of old) (length (state_of old).disks)) result new

-- A machine that is unchanged but for the calls of its disks, and none of whose disks was called, is unchanged.
abbrev pub UncalledIsSame : Type 0
UncalledIsSame = (old new : Seen) → IsSameButCalls old new → CallsNone old new → new ≡ old
