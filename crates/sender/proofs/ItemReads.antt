-- The calls of disks while items are sent.
use Rattle.std.proofs.Common.{◌≡◌, ℕ, ◌+◌, ◌<◌, ◌≤◌, List, [], ◌∷◌, ◌++◌, Option, None, Some, Bool, true, false, cond, refl, ap, sym, subst, ◌∙◌, arith}
use Rattle.std.specs.Prelude.{Result, Ok, Err}
use Rattle.dirtylog.specs.Members.{IsLeast}
use Rattle.guestmem.specs.Item as items
use Rattle.blk.specs.Sectors.{Sector}
use Rattle.machine.specs.Applied.{IsGood, ReadsSector}
use Rattle.machine.specs.Calls.{CallsDisk, has_read}
use Rattle.machine.specs.EffectLaws.{sector_on, sectors_on}
use Rattle.machine.specs.Layout.{item_at, layout_of, size_of}
use Rattle.machine.specs.Seen.{Seen, all_calls, called_at, state_of}
use Rattle.machine.specs.State.{MachineState}
use Rattle.sender.specs.Calls.{AreCleared, in_either}
use Rattle.sender.specs.LiveState.{LiveSeen, chosen, now, refusal_for}
use Rattle.sender.specs.Reads.{FailedCalls, HasLiveCalled, ReadsBelow, ReadsItem, after_read, after_reads, is_good}
use Rattle.sender.specs.Uncalled.{CallsNone}
use Rattle.sender.specs.Stopping.{ClosesStream, SendsItem}
use Rattle.sender.specs.declared.event.Item.{Item}
use Rattle.sender.specs.declared.mig_error.MigError.{MigError}
use Rattle.sender.specs.declared.mig_error.MigError.TheVariants as errors
use Rattle.sender.specs.declared.event.LiveEvent.TheVariants as events
use Rattle.sender.specs.declared.event.LiveReply.TheVariants as r
use Rattle.sender.proofs.Stopping.{chosen_more, chosen_none, either_same}

-- A sector that was read to be sent.
by_found : (called : ℕ → ℕ) (old new : Seen) (dev n : ℕ) (found : Option Sector) → sector_on (sectors_on (state_of old) dev) n ≡ found → CallsDisk called (is_good found) dev old new → ReadsItem called old (items.sector dev n) new
by_found called old new dev n found is calls =
    let P : Option Sector → Type 0 = λ x. all_calls new ≡ cond (is_good x) (called_at called (all_calls old) dev) (all_calls old) in
    subst P (sym is) calls

pub read_once : {E : Type 0} (called : ℕ → ℕ) (old new : Seen) (dev n : ℕ) (bytes : List ℕ) (result : Result Bool E) → ReadsSector old dev n bytes result new → CallsDisk called (has_read result) dev old new
    → ReadsItem called old (items.sector dev n) new
read_once called old new dev n bytes (Ok true) read calls = by_found called old new dev n (Some (Some read.found.0.0)) read.found.0.1 calls
read_once called old new dev n bytes (Ok false) read calls = by_found called old new dev n (Some None) read.found calls
read_once called old new dev n bytes (Err e) read calls = by_found called old new dev n (Some (Some read.good.0)) read.good.1 calls

pub good_read_once : (called : ℕ → ℕ) (old new : Seen) (dev n : ℕ) → IsGood (sector_on (sectors_on (state_of old) dev) n) → CallsDisk called true dev old new → ReadsItem called old (items.sector dev n) new
good_read_once called old new dev n good calls = by_found called old new dev n (Some (Some good.0)) good.1 calls

-- One more item.
reads_last : (called : ℕ → ℕ) (m : MachineState) (numbers : List ℕ) (i : ℕ) (calls : List (Option ℕ)) → after_reads called m (numbers ++ i ∷ []) calls ≡ after_read called m (item_at (layout_of m) i) (after_reads called m numbers calls)
reads_last called m [] i calls = refl
reads_last called m (n ∷ numbers) i calls = reads_last called m numbers i (after_read called m (item_at (layout_of m) n) calls)

pub reads_more : (called : ℕ → ℕ) (old mid new : LiveSeen) (i : ℕ) → in_either old i ≡ true → now mid ≡ now old → ReadsBelow called old i mid → ReadsItem called mid.machine (item_at (layout_of (now mid)) i) new.machine → ReadsBelow called old (i + 1) new
reads_more called old mid new i is same before one =
    let m = now old in
    let first = all_calls old.machine in
    let P : MachineState → Type 0 = λ k. all_calls new.machine ≡ after_read called k (item_at (layout_of k) i) (all_calls mid.machine) in
    let here : all_calls new.machine ≡ after_read called m (item_at (layout_of m) i) (all_calls mid.machine) = subst P same one in
    here ∙ ap (after_read called m (item_at (layout_of m) i)) before ∙ sym (reads_last called m (chosen (in_either old) i) i first) ∙ ap (λ (numbers : List ℕ). after_reads called m numbers first) (sym (chosen_more (in_either old) i is))

-- No item from one number on, before another, is in one of the sets.
pub reads_to : (called : ℕ → ℕ) (old mid : LiveSeen) (at to : ℕ) → AreCleared old at mid → at ≤ to → ((k : ℕ) → at ≤ k → k < to → in_either mid k ≡ false) → ReadsBelow called old at mid → ReadsBelow called old to mid
reads_to called old mid at to sets le none reads =
    let same : chosen (in_either old) to ≡ chosen (in_either old) at = chosen_none (in_either old) at to le (λ k l b. sym (either_same old mid at k sets l) ∙ none k l b) in
    reads ∙ ap (λ (numbers : List ℕ). after_reads called (now old) numbers (all_calls old.machine)) (sym same)

-- An item was not sent.
pub failed_at_item : (called : ℕ → ℕ) (old mid new : LiveSeen) (at : ℕ) (e : MigError) → at < size_of (layout_of (now old)) → now mid ≡ now old → SendsItem mid at (Err e) new → ReadsBelow called old (at + 1) new → FailedCalls called old e new
failed_at_item called old mid new at (errors.DiskFailed dev n) below same s reads = record {
  number = at;
  below = below;
  item_is = subst (λ (m : MachineState). items.sector dev n ≡ item_at (layout_of m) at) same s.item_is;
  reads = reads;
}
failed_at_item called old mid new at errors.StreamFailed below same s reads = record { to = at + 1; within = omega (arith, below); reads = reads }
failed_at_item called old mid new at _ below same s reads = absurd s

-- A copy.
pub copied_called : (called : ℕ → ℕ) (old new : LiveSeen) (i : ℕ) (item : Item) → refusal_for old.phase events.Copy ≡ None → IsLeast old.due 0 i → ReadsItem called old.machine (item_at (layout_of (now old)) i) new.machine → HasLiveCalled called old events.Copy (r.Copied item) new
copied_called called old new i item free least reads = rw free (record { number = i; least = least; reads = reads })

pub copy_failed_called : (called : ℕ → ℕ) (old new : LiveSeen) (i : ℕ) (e : MigError) → refusal_for old.phase events.Copy ≡ None → IsLeast old.due 0 i → ReadsItem called old.machine (item_at (layout_of (now old)) i) new.machine → HasLiveCalled called old events.Copy (r.Mig e) new
copy_failed_called called old new i e free least reads = rw free (record { number = i; least = least; reads = reads })

pub done_called : (called : ℕ → ℕ) (old : LiveSeen) → refusal_for old.phase events.Copy ≡ None → HasLiveCalled called old events.Copy r.RoundDone old
done_called called old free = rw free refl

-- A stop.
pub stop_called : (called : ℕ → ℕ) (old mid new : LiveSeen) (pages sectors : ℕ) → refusal_for old.phase events.Stop ≡ None → ReadsBelow called old (size_of (layout_of (now old))) mid → CallsNone mid.machine new.machine
    → HasLiveCalled called old events.Stop (r.Stopped pages sectors) new
stop_called called old mid new pages sectors free reads none = rw free (none ∙ reads)

pub stop_short_called : (called : ℕ → ℕ) (old new : LiveSeen) (e : MigError) → refusal_for old.phase events.Stop ≡ None → FailedCalls called old e new → HasLiveCalled called old events.Stop (r.Mig e) new
stop_short_called called old new e free calls = rw free calls

-- The stream was not closed: all was read.
all_read : (called : ℕ → ℕ) (old mid new : LiveSeen) (e : MigError) → ReadsBelow called old (size_of (layout_of (now old))) mid → CallsNone mid.machine new.machine → ClosesStream {A = Unit {0}} mid (Err e) new → FailedCalls called old e new
all_read called old mid new errors.StreamFailed reads none c = record { to = size_of (layout_of (now old)); within = omega arith; reads = none ∙ reads }
all_read called old mid new (errors.DiskFailed dev n) reads none c = absurd c
all_read called old mid new errors.AlreadyStopped reads none c = absurd c
all_read called old mid new errors.NotBegun reads none c = absurd c
all_read called old mid new errors.AlreadyBegun reads none c = absurd c
all_read called old mid new errors.RoundsEnded reads none c = absurd c

pub stop_failed_called : (called : ℕ → ℕ) (old mid new : LiveSeen) (e : MigError) → refusal_for old.phase events.Stop ≡ None → ReadsBelow called old (size_of (layout_of (now old))) mid → CallsNone mid.machine new.machine → ClosesStream {A = Unit {0}} mid (Err e) new
    → HasLiveCalled called old events.Stop (r.Mig e) new
stop_failed_called called old mid new e free reads none c = rw free (all_read called old mid new e reads none c)
