-- A copy of a sector while the RAM is lent.
use Rattle.std.proofs.Common.{◌≡◌, ◌≢◌, ℕ, ◌+◌, ◌<◌, inl, inr, Bool, false, List, [], ◌∷◌, length, ltb, set, Some, None, Err, refl, sym, ap, subst, ◌∙◌, arith}
use Rattle.std.specs.Prelude.{Ok, Result}
use Rattle.std.proofs.lemmas.List.{length-set}
use borrow.Author.Tests.{ltb-true}
use Rattle.dirtylog.specs.Members.{HasNone, IsLeast, has}
use Rattle.guestmem.specs.Item as items
use Rattle.guestmem.specs.Memory.{IsMemory, Memory}
use Rattle.machine.specs.Applied.{ReadsSector}
use Rattle.machine.specs.Layout.{IsItemIn, Layout, item_at, layout_of, sector_from, size_of}
use Rattle.machine.specs.Over.{HasSector}
use Rattle.machine.specs.Parked.{ParkedSeen, ReadsParked, WhateverRam, back_with, parked_sectors, parked_states}
use Rattle.machine.specs.Seen.{Seen, state_of}
use Rattle.machine.specs.State.{MachineState}
use Rattle.machine.proofs.Numbering.{either_way, has_item, item_there}
use Rattle.wire.specs.Records.{spelled_record}
use Rattle.wire.specs.Stream.{record_of}
use Rattle.sender.specs.LiveState.{now, refusal_for}
use Rattle.sender.specs.Parked.{LiveParkedSeen, live_back, parked_layout}
use Rattle.sender.specs.Reads.{ReadsItem}
use Rattle.sender.specs.Saving.{AddsItem, NamesItem, Sends}
use Rattle.sender.specs.SectorsLent.{CallsLent, CopiesLent, IsKeptLent, IsPageDue, IsRoundDone, SendsLent}
use Rattle.sender.specs.Stopping.{SetsFit, phase_after}
use Rattle.sender.specs.declared.event.Item.TheVariants.{Sector}
use Rattle.sender.specs.declared.event.LiveEvent.TheVariants.{Copy}
use Rattle.sender.specs.declared.event.LiveReply.TheVariants as r
use Rattle.sender.specs.declared.mig_error.MigError.{MigError}
use Rattle.sender.specs.declared.mig_error.MigError.TheVariants as errors
use Rattle.sender.specs.declared.phase.Phase.{Phase}
use Rattle.sender.specs.declared.phase.Phase.TheVariants as phases
use Rattle.sender.proofs.ItemReads.{copied_called, copy_failed_called}
use Rattle.sender.proofs.Living.{fit_next, member_below, still_none}
use Rattle.sender.proofs.ParkedServed.{sets_stay}
use Rattle.sender.proofs.Parking.{layout_is}
use Rattle.sender.proofs.Served.{fits_after, item_not_sent, item_sent}
use Rattle.sender.proofs.Stopping.{copy_failed, lt_or_le, served_copy}

-- Some memory, where it does not matter which.
abbrev some_memory : Memory
some_memory = record { bytes = []; versions = []; place = None }

-- With whatever RAM the machine has the same layout.
pub layout_back : (p : ParkedSeen) (m : Memory) → IsMemory m → length m.versions ≡ length p.memory → layout_of (state_of (back_with p m)) ≡ parked_layout p
layout_back p m mem count = layout_is (back_with p m) p (omega (arith, mem.pages, count)) refl

-- An item that is a page has the number of the page.
no_page : (dev first : ℕ) (sizes : List ℕ) (i n : ℕ) → items.page n ≢ sector_from dev first sizes i
no_page dev first [] i n is = cc
no_page dev first (size ∷ sizes) i n is =
    elim (either_way (ltb i (first + size))) as (λ _. ⊥) [
      | inl here ↦ (let e = rw here at is in cc)
      | inr past ↦ no_page (dev + 1) (first + size) sizes i n (rw past at is)
    ]

pub record IsPage (l : Layout) (i n : ℕ) : Type 0 where
  pub same : n ≡ i
  pub below : n < l.pages

pub page_at_number : (l : Layout) (i n : ℕ) → items.page n ≡ item_at l i → IsPage l i n
page_at_number l i n is =
    elim (either_way (ltb i l.pages)) as (λ _. IsPage l i n) [
      | inl here ↦
          let e : items.page n ≡ items.page i = rw here at is in
          let same : n ≡ i = cc in
          let below : i < l.pages = ltb-true i l.pages here in
          record { same = same; below = omega (arith, same, below) }
      | inr past ↦ absurd (no_page 0 l.pages l.disks i n (rw past at is))
    ]

pub least_of_all : (due : List Bool) (at i : ℕ) → ((k : ℕ) → k < at → has due k ≡ false) → IsLeast due at i → IsLeast due 0 i
least_of_all due at i passed h = record {
  reached = omega arith;
  member = h.member;
  least = λ k from below. elim (lt_or_le k at) as (λ _. has due k ≡ false) [ inl a ↦ passed k a | inr b ↦ h.least k b below ];
}

pub least_below : (l : Layout) (due : List Bool) (from i : ℕ) → length due ≡ size_of l → IsLeast due from i → i < size_of l
least_below l due from i size least = omega (arith, size, member_below due i least.member)

-- The sector of a number is there.
pub sector_lent : (p : ParkedSeen) (i dev n : ℕ) → i < size_of (parked_layout p) → items.sector dev n ≡ item_at (parked_layout p) i → HasSector p dev n
sector_lent p i dev n below is =
    let within : IsItemIn (parked_layout p) (items.sector dev n) = subst (λ (x : items.Item). IsItemIn (parked_layout p) x) (sym is) (item_there (parked_layout p) i below) in
    has_item (state_of (back_with p some_memory)) (items.sector dev n) refl within

-- A read of a sector leaves the sets fitting.
sectors_read : {E : Type 0} (p next : ParkedSeen) (dev n : ℕ) (buf : List ℕ) (read : Result Bool E) → ReadsParked p dev n buf read next → parked_sectors next ≡ parked_sectors p
sectors_read p next dev n buf read f = ap (λ (m : MachineState). m.disks) (f.reads some_memory).state

states_read : {E : Type 0} (p next : ParkedSeen) (dev n : ℕ) (buf : List ℕ) (read : Result Bool E) → ReadsParked p dev n buf read next → parked_states next ≡ parked_states p
states_read p next dev n buf read f = ap (λ (m : MachineState). m.devices) (f.reads some_memory).state

pub fit_unsent : {E : Type 0} (p next : ParkedSeen) (dev n : ℕ) (buf : List ℕ) (read : Result Bool E) (phase : Phase) (e : MigError) (due dirty : List Bool) (firsts : List ℕ) (at : ℕ) → ReadsParked p dev n buf read next → SetsFit (parked_layout p) phase due dirty firsts at
    → SetsFit (parked_layout next) (phase_after phase e) due dirty firsts at
fit_unsent p next dev n buf read phase e due dirty firsts at f fit =
    let still = sets_stay p next phase due dirty firsts at fit f.versions (sectors_read p next dev n buf read f) in
    fit_next (parked_layout next) phase (phase_after phase e) due due dirty dirty firsts firsts at at still refl refl refl (fits_after phase e still.round) still.reached still.passed

pub fit_sent : {E : Type 0} (p next : ParkedSeen) (dev n : ℕ) (buf : List ℕ) (read : Result Bool E) (phase : Phase) (due new_due dirty new_dirty : List Bool) (firsts : List ℕ) (at i : ℕ) → ReadsParked p dev n buf read next → SetsFit (parked_layout p) phase due dirty firsts at
    → new_due ≡ set due i false → length new_dirty ≡ length dirty → SetsFit (parked_layout next) phase new_due new_dirty firsts at
fit_sent p next dev n buf read phase due new_due dirty new_dirty firsts at i f fit d dirty_long =
    let still = sets_stay p next phase due dirty firsts at fit f.versions (sectors_read p next dev n buf read f) in
    let due_long : length new_due ≡ length due = ap length d ∙ length-set due i false in
    fit_next (parked_layout next) phase phase due new_due dirty new_dirty firsts firsts at at still due_long dirty_long refl still.round (omega (arith, due_long, still.reached)) (λ k below. rw d (still_none due i k (still.passed k below)))

-- It was sent, or not.
goes_after : (phase : Phase) (e : MigError) → phase ≢ phases.Stopped → phase_after phase e ≢ phases.Stopped
goes_after phase errors.StreamFailed goes is = cc
goes_after phase _ goes is = goes is

module _ {E : Type 0} (p next : LiveParkedSeen) (i dev n : ℕ) (buf : List ℕ) (read : Result Bool E) (reads : ReadsParked p.machine dev n buf read next.machine) (is : items.sector dev n ≡ item_at (parked_layout p.machine) i) where
  at_back : (m : Memory) → IsMemory m → length m.versions ≡ length p.machine.memory → items.sector dev n ≡ item_at (layout_of (now (live_back p m []))) i
  at_back m mem count = is ∙ ap (λ (l : Layout). item_at l i) (sym (layout_back p.machine m mem count))

  kept : length next.due ≡ length p.due → length next.dirty ≡ length p.dirty → (p.phase ≢ phases.Stopped → next.phase ≢ phases.Stopped) → IsKeptLent p next
  kept due dirty goes = record {
    versions = reads.versions;
    states = states_read p.machine next.machine dev n buf read reads;
    sectors = sectors_read p.machine next.machine dev n buf read reads;
    due_size = due;
    dirty_size = dirty;
    goes = goes;
  }

  pub sent_lent : {A : Type 0} (done : A) → ((old new : Seen) → ReadsSector old dev n buf read new → Sends old p.out (spelled_record (record_of (state_of old) (items.sector dev n))) (Ok done) new next.out)
      → ((old new : Seen) → ReadsSector old dev n buf read new → AddsItem old (items.sector dev n) p.out p.digest next.out next.digest)
      → next.phase ≡ p.phase → next.due ≡ set p.due i false → next.dirty ≡ set p.dirty i false → SendsLent p i dev n (Ok (tt {0})) next
  sent_lent done sends adds phase due dirty = record {
    sends = λ m mem bytes count. item_sent (live_back p m []) (live_back next m []) i (Sector dev n) done (at_back m mem count) (sends (back_with p.machine m) (back_with next.machine m) (reads.reads m)) (adds (back_with p.machine m) (back_with next.machine m) (reads.reads m)) phase due dirty;
    kept = kept (ap length due ∙ length-set p.due i false) (ap length dirty ∙ length-set p.dirty i false) (subst (λ (f : Phase). p.phase ≢ phases.Stopped → f ≢ phases.Stopped) (sym phase) (λ goes. goes));
  }

  pub unsent_lent : {A : Type 0} (e : MigError) → ((old new : Seen) → ReadsSector old dev n buf read new → Sends {A = A} old p.out (spelled_record (record_of (state_of old) (items.sector dev n))) (Err e) new next.out)
      → NamesItem (items.sector dev n) e p.out next.out p.digest next.digest → next.phase ≡ phase_after p.phase e → next.due ≡ p.due → next.dirty ≡ p.dirty → SendsLent p i dev n (Err e) next
  unsent_lent e sends names phase due dirty = record {
    sends = λ m mem bytes count. item_not_sent (live_back p m []) (live_back next m []) i (Sector dev n) e (spelled_record (record_of (state_of (back_with p.machine m)) (items.sector dev n))) (at_back m mem count) (sends (back_with p.machine m) (back_with next.machine m) (reads.reads m)) names phase due dirty;
    kept = kept (ap length due) (ap length dirty) (subst (λ (f : Phase). p.phase ≢ phases.Stopped → f ≢ phases.Stopped) (sym phase) (goes_after p.phase e));
  }

pub kept_same : (p : LiveParkedSeen) → IsKeptLent p p
kept_same p = record { versions = refl; states = refl; sectors = refl; due_size = refl; dirty_size = refl; goes = λ g. g }

-- The phase refuses it.
pub copy_refused : (p : LiveParkedSeen) (e : MigError) → refusal_for p.phase Copy ≡ Some e → CopiesLent p (r.Mig e) p
copy_refused p e refused = record { serves = λ m mem bytes count. rw refused (refl, refl); kept = kept_same p }

pub refused_called : (called : ℕ → ℕ) (p : LiveParkedSeen) (e : MigError) → refusal_for p.phase Copy ≡ Some e → CallsLent called p (r.Mig e) p
refused_called called p e refused = λ m mem bytes count. rw refused refl

-- No item is due.
pub none_due : (p : LiveParkedSeen) → refusal_for p.phase Copy ≡ None → HasNone p.due → IsRoundDone p p
none_due p free none = record { free = free; none = none; same = refl }

-- A page is due.
pub page_due : (p : LiveParkedSeen) (i n : ℕ) → refusal_for p.phase Copy ≡ None → IsLeast p.due 0 i → items.page n ≡ item_at (parked_layout p.machine) i → IsPageDue p n p
page_due p i n free least is =
    let here = page_at_number (parked_layout p.machine) i n is in
    record { free = free; least = subst (λ (k : ℕ). IsLeast p.due 0 k) (sym here.same) least; below = here.below; same = refl }

-- The sector was sent, or not.
pub sector_copied : (p next : LiveParkedSeen) (i dev n : ℕ) (done : Unit {0}) → refusal_for p.phase Copy ≡ None → IsLeast p.due 0 i → SendsLent p i dev n (Ok done) next → CopiesLent p (r.Copied (Sector dev n)) next
sector_copied p next i dev n done free least sent = record {
  serves = λ m mem bytes count. served_copy (live_back p m []) (live_back next m []) i (Sector dev n) free least (sent.sends m mem bytes count);
  kept = sent.kept;
}

pub sector_failed : (p next : LiveParkedSeen) (i dev n : ℕ) (e : MigError) → refusal_for p.phase Copy ≡ None → IsLeast p.due 0 i → SendsLent p i dev n (Err e) next → CopiesLent p (r.Mig e) next
sector_failed p next i dev n e free least sent = record {
  serves = λ m mem bytes count. copy_failed (live_back p m []) (live_back next m []) i e free least (sent.sends m mem bytes count);
  kept = sent.kept;
}

-- The disk that it called.
module _ (called : ℕ → ℕ) (p next : LiveParkedSeen) (i dev n : ℕ) (free : refusal_for p.phase Copy ≡ None) (least : IsLeast p.due 0 i) (is : items.sector dev n ≡ item_at (parked_layout p.machine) i)
    (reads : WhateverRam p.machine (λ m. ReadsItem called (back_with p.machine m) (items.sector dev n) (back_with next.machine m))) where
  read_at : WhateverRam p.machine (λ m. ReadsItem called (back_with p.machine m) (item_at (layout_of (now (live_back p m []))) i) (back_with next.machine m))
  read_at m mem bytes count =
      let at : items.sector dev n ≡ item_at (layout_of (now (live_back p m []))) i = is ∙ ap (λ (l : Layout). item_at l i) (sym (layout_back p.machine m mem count)) in
      subst (λ (x : items.Item). ReadsItem called (back_with p.machine m) x (back_with next.machine m)) at (reads m mem bytes count)

  pub sector_called : CallsLent called p (r.Copied (Sector dev n)) next
  sector_called m mem bytes count = copied_called called (live_back p m []) (live_back next m []) i (Sector dev n) free least (read_at m mem bytes count)

  pub failed_called : (e : MigError) → CallsLent called p (r.Mig e) next
  failed_called e m mem bytes count = copy_failed_called called (live_back p m []) (live_back next m []) i e free least (read_at m mem bytes count)
