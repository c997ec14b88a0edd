-- A page that is handed in while the RAM is lent is a write of the guest and a copy.
use Rattle.std.proofs.Common.{◌≡◌, ◌≢◌, ℕ, zero, suc, ◌+◌, ◌*◌, ◌%◌, ◌^◌, ◌<◌, ◌≤◌, ◌++◌, Bool, true, false, List, [], ◌∷◌, get_or, length, map, take, drop, set, refl, sym, ap, subst, ◌∙◌, append_assoc, append-nil, arith}
use Rattle.std.proofs.lemmas.List.{drop_at, length-set, length-take-le, set-set, take_at}
use Rattle.std.proofs.lemmas.Bool.Decides.{nat_tests}
use Rattle.std.specs.Prelude.{IsTrue, None}
use Rattle.dirtylog.specs.Members.{IsLeast}
use Rattle.region.specs.declared.region.Region.{Region}
use Rattle.guestmem.specs.Item as items
use Rattle.guestmem.specs.Memory.{IsMemory, Memory}
use Rattle.guestmem.specs.Page.{page_of}
use Rattle.guestmem.specs.Write.{put_at}
use Rattle.guestmem.proofs.ByteLaws.{IsBytes-append, IsBytes-drop, IsBytes-take}
use Rattle.guestmem.proofs.Later.{length-put_at}
use Rattle.machine.specs.Layout.{Layout, item_at, layout_of, size_of}
use Rattle.machine.specs.Parked.{IsParked, ParkedSeen, page_address}
use Rattle.machine.specs.Seen.{DeviceSeen, state_of}
use Rattle.machine.specs.Sound.{IsSound}
use Rattle.machine.specs.State.{MachineState, base_of}
use Rattle.machine.specs.declared.event.Event.{Event}
use Rattle.machine.specs.declared.event.Event.TheVariants.{MemWrite}
use Rattle.machine.specs.declared.reply.Reply.TheVariants.{Done}
use Rattle.machine.proofs.GivenBack.{with_memory}
use Rattle.wire.specs.Records.{Record, page_record, spelled_record}
use Rattle.wire.specs.Sinks.{Digested, SinkState, Takes}
use Rattle.wire.specs.Stream.{record_of, texts}
use Rattle.sender.specs.Calls.{Serves}
use Rattle.sender.specs.Follows.{Relates}
use Rattle.sender.specs.HandedIn.{HandingFails, HandsIn, page_text}
use Rattle.sender.specs.History.{History, guest_events, machine_after, text, then_came}
use Rattle.sender.specs.LiveState.{HasPlaces, LiveSeen, now, refusal_for}
use Rattle.sender.specs.Marks.{IsBehind, MayCall, StaysBehind, if_dirty}
use Rattle.sender.specs.Parked.{IsLiveParked, LiveParkedSeen}
use Rattle.sender.specs.ParkedCalls.{a_failed_page, a_page, over_with, parked_base, without}
use Rattle.sender.specs.Taking.{untaken}
use Rattle.sender.specs.Told.{IsTold}
use Rattle.sender.specs.declared.event.Item.TheVariants.{Page}
use Rattle.sender.specs.declared.event.LiveEvent.TheVariants.{Guest, Copy}
use Rattle.sender.specs.declared.event.LiveReply.TheVariants as r
use Rattle.sender.specs.declared.mig_error.MigError.TheVariants as errors
use Rattle.sender.specs.declared.phase.Phase.{Phase}
use Rattle.sender.specs.declared.phase.Phase.TheVariants as phases
use Rattle.sender.proofs.Behind.{taken_stays_behind}
use Rattle.sender.proofs.Flushed.{relates_with}
use Rattle.sender.proofs.Marking.{sent_late, without_both}
use Rattle.sender.proofs.Parking.{length-with_pages}
use Rattle.sender.proofs.Relating.{GoneOn, relates_on}
use Rattle.sender.proofs.LiveBack.{IsReady, ready_still, served, with_page}
use Rattle.sender.proofs.StepBeside.{GoesOnLent, may_guest}
use Rattle.sender.proofs.Unsynced.{no_text}

-- A part of a list into which these bytes were put there.
part_of_put : (old bytes : List ℕ) (at count : ℕ) → length bytes ≡ count → at ≤ length old → take count (drop at (put_at old at bytes)) ≡ bytes
part_of_put old bytes at count size inside =
    let behind = drop (at + length bytes) old in
    ap (λ (x : List ℕ). take count (drop at x)) (append_assoc (take at old) bytes behind) ∙ (ap (take count) (drop_at (take at old) (bytes ++ behind) at (length-take-le at old inside)) ∙ take_at bytes behind count size)

-- Page n of a RAM into which these bytes were put there.
pub page_of_put : (old bytes : List ℕ) (n : ℕ) → length bytes ≡ 4096 → 4096 * n + length bytes ≤ length old → page_of (put_at old (4096 * n) bytes) n ≡ bytes
page_of_put old bytes n size inside = part_of_put old bytes (4096 * n) 4096 size (omega (arith, inside))

-- A page's number is that of its item.
pub page_at : (l : Layout) (n : ℕ) → n < l.pages → item_at l n ≡ items.page n
page_at l n below = grind (arith, nat_tests)

pub may_copy : (pages : List ℕ) → MayCall pages Copy
may_copy [] = tt
may_copy (n ∷ pages) = tt

open_goes : (f : Phase) → refusal_for f Copy ≡ None → f ≢ phases.Stopped
open_goes phases.Fresh free is = cc
open_goes (phases.Open k) free is = cc
open_goes phases.Failed free is = cc
open_goes phases.Stopped free is = cc

failed_goes : phases.Failed ≢ phases.Stopped
failed_goes is = cc

one_text : (record_ : Record) → texts (record_ ∷ []) ≡ spelled_record record_
unfolding texts
one_text record_ = append-nil (spelled_record record_)

same_event : (a b : ℕ) (x y : List ℕ) → a ≡ b → x ≡ y → MemWrite a x ≡ MemWrite b y
same_event a b x y e f = rw (e, f) refl

no_texts : (x : List ℕ) → x ++ texts [] ≡ x ++ []
unfolding texts
no_texts x = refl

one_below : (n count : ℕ) → n < count → (k d : ℕ) → k < 1 → get_or (n ∷ []) k d < count
one_below n count below zero d lt = below
one_below n count below (suc k) d lt = absurd (omega (arith, lt))

module _ (m : MachineState) (h : History) (out : SinkState) (taken pages : List ℕ) (l : LiveSeen) (p mid : LiveParkedSeen) (before : Region) (b : IsBehind m h out pages (untaken taken l)) (places : HasPlaces l) (mem : IsMemory l.machine.memory) (goes : l.phase ≢ phases.Stopped) (lent : IsLiveParked l before p) where
  phase_is : p.phase ≡ l.phase
  phase_is = ap (λ (x : LiveParkedSeen). x.phase) lent.rest

  due_is : p.due ≡ l.due
  due_is = ap (λ (x : LiveParkedSeen). x.due) lent.rest

  out_is : p.out ≡ l.out
  out_is = ap (λ (x : LiveParkedSeen). x.out) lent.rest

  digest_is : p.digest ≡ l.digest
  digest_is = ap (λ (x : LiveParkedSeen). x.digest) lent.rest

  free_is : refusal_for p.phase Copy ≡ None → refusal_for l.phase Copy ≡ None
  free_is free = ap (λ (f : Phase). refusal_for f Copy) (sym phase_is) ∙ free

  still_taken : (history : History) (left : List ℕ) (after : LiveSeen) → IsBehind m history out left (untaken taken after) → IsBehind m history out left (untaken (taken ++ []) after)
  still_taken history left after = subst (λ (t : List ℕ). IsBehind m history out left (untaken t after)) (sym (append-nil taken))

  -- The writer failed.
  module _ (call : HandingFails p mid) where
    abbrev failed : LiveSeen
    failed = record l { phase = phases.Failed; digest = mid.digest; out = mid.out }

    serves_failed : Serves l Copy (r.Mig errors.StreamFailed) failed
    serves_failed = rw (free_is call.free) (record {
      machine = record { memory = refl; state = refl; marks = refl; flushed = refl };
      phase = refl;
      count = call.count ∙ ap (λ (o : SinkState). (o.failures + 1) % 2 ^ 64) out_is;
    })

    pub handing_failed : GoesOnLent m h out taken pages before a_failed_page p mid
    handing_failed =
        let gone = taken_stays_behind m h out taken pages Copy (r.Mig errors.StreamFailed) l failed b places (may_copy pages) serves_failed in
        let next : History = then_came h Copy (r.Mig errors.StreamFailed) gone.effect in
        let same : mid.machine ≡ p.machine = ap (λ (x : LiveParkedSeen). x.machine) call.rest in
        record {
          history = next;
          after = failed;
          behind = still_taken next pages failed gone.behind;
          came = sym (append-nil (guest_events h));
          text_is = no_texts (text m h);
          parked = record {
            parked = subst (λ (q : ParkedSeen). IsParked l.machine before q) (sym same) lent.parked;
            rest = ap (λ (x : LiveParkedSeen). record x { machine = mid.machine }) call.rest ∙ ap (λ (x : LiveParkedSeen). record x { machine = mid.machine; phase = phases.Failed; digest = mid.digest; out = mid.out }) lent.rest;
          };
          places = record { sound = places.sound; few = places.few; due_size = places.due_size; dirty_size = places.dirty_size };
          memory = mem;
          versions = ap (λ (q : ParkedSeen). length q.memory) same;
          goes = failed_goes;
        }

  -- The page was sent.
  module _ (addr n : ℕ) (bytes : List ℕ) (addr_is : addr ≡ parked_base p + 4096 * n) (call : HandsIn p n bytes mid) where
    abbrev old : Memory
    old = l.machine.memory

    abbrev content : List ℕ
    content = put_at old.bytes (4096 * n) bytes

    below : n < length old.versions
    below = subst (λ (v : List ℕ). n < length v) lent.parked.lent.versions_are call.below

    inside : 4096 * n + length bytes ≤ length old.bytes
    inside = omega (arith, below, mem.pages, call.size)

    long : length content ≡ length old.bytes
    long = length-put_at old.bytes bytes (4096 * n) inside

    page_is : page_of content n ≡ bytes
    page_is = page_of_put old.bytes bytes n call.size inside

    ready : IsReady l content (n ∷ [])
    ready = record {
      places = places;
      memory = mem;
      goes = goes;
      below = one_below n (length old.versions) below;
      long = long;
      are = IsBytes-append (take (4096 * n) old.bytes ++ bytes) (drop (4096 * n + length bytes) old.bytes)
          (IsBytes-append (take (4096 * n) old.bytes) bytes (IsBytes-take (4096 * n) old.bytes places.sound.bytes) call.are) (IsBytes-drop (4096 * n + length bytes) old.bytes places.sound.bytes);
    }

    -- The guest's write.
    abbrev write : Event
    write = MemWrite (page_address l.machine n) (page_of content n)

    abbrev wrote : LiveSeen
    wrote = with_page l content n

    there : IsReady wrote content []
    there = ready_still l content n [] ready

    step_one : StaysBehind m h out (Guest write) (r.Guest Done) pages (untaken taken wrote)
    step_one = taken_stays_behind m h out taken pages (Guest write) (r.Guest Done) l wrote b places (may_guest pages write) (served l content n [] ready)

    abbrev first : History
    first = then_came h (Guest write) (r.Guest Done) step_one.effect

    -- The copy.
    abbrev entry : Record
    entry = page_record 2 n bytes

    abbrev copied : LiveSeen
    copied = record wrote { due = set l.due n false; dirty = set (set l.dirty n true) n false; digest = mid.digest; out = mid.out }

    held_page : page_of wrote.machine.memory.bytes n ≡ bytes
    held_page = page_of_put old.bytes (page_of content n) n (ap length page_is ∙ call.size) (omega (arith, inside, ap length page_is)) ∙ page_is

    in_pages : n < (layout_of (now wrote)).pages
    in_pages = omega (arith, below, mem.pages, there.long, long)

    told : IsTold wrote.machine (item_at (layout_of (now wrote)) n) entry
    told = rw (page_at (layout_of (now wrote)) n in_pages) (ap (page_record 2 n) (sym held_page))

    abbrev late : List ℕ
    late = step_one.behind.late

    abbrev still : List ℕ
    still = without n late

    serves_copy : Serves (if_dirty late (untaken taken wrote)) Copy (r.Copied (Page n)) (if_dirty still (untaken taken copied))
    serves_copy = rw (free_is call.free) (record {
      number = n;
      least = subst (λ (d : List Bool). IsLeast d 0 n) due_is call.least;
      item_is = sym (page_at (layout_of (now wrote)) n in_pages);
      sent = record {
        machine = record { memory = refl; state = refl; marks = refl; flushed = refl };
        phase = refl;
        due = refl;
        dirty = sent_late (set l.dirty n true) n late;
        entry = entry;
        told = told;
        wrote = record {
          took = record {
            count = call.count ∙ ap (λ (o : SinkState). o.failures) out_is;
            holds = λ honest. (let more = call.holds (subst (λ (o : SinkState). IsTrue o.honest) (sym out_is) honest) in (more.0, ap (λ (x : List ℕ). taken ++ x) (more.1 ∙ ap (λ (o : SinkState). o.held ++ page_text n bytes) out_is) ∙ sym (append_assoc taken l.out.held (page_text n bytes))));
          };
          taken = subst (λ (d : Digested). Takes d (page_text n bytes) mid.digest) digest_is call.digest;
        };
      };
    })

    places_one : HasPlaces (if_dirty late (untaken taken wrote))
    places_one = record { sound = there.places.sound; few = there.places.few; due_size = there.places.due_size; dirty_size = length-with_pages wrote.dirty late ∙ there.places.dirty_size }

    step_two : GoneOn m first out Copy (r.Copied (Page n)) (if_dirty still (untaken taken copied))
    step_two = relates_on m first out Copy (r.Copied (Page n)) (if_dirty late (untaken taken wrote)) (if_dirty still (untaken taken copied)) step_one.behind.relates places_one serves_copy

    abbrev second : History
    second = then_came first Copy (r.Copied (Page n)) step_two.effect

    -- It, with the versions that it had.
    abbrev after : LiveSeen
    after = record l { machine = with_memory l.machine (record old { bytes = content }); due = set l.due n false; dirty = set l.dirty n false; digest = mid.digest; out = mid.out }

    same_bytes : put_at old.bytes (4096 * n) (page_of content n) ≡ content
    same_bytes = ap (put_at old.bytes (4096 * n)) page_is

    same_state : state_of after.machine ≡ state_of wrote.machine
    same_state = ap (λ (x : List ℕ). state_of (with_memory l.machine (record old { bytes = x }))) (sym same_bytes)

    cleared : set (set l.dirty n true) n false ≡ set l.dirty n false
    cleared = set-set l.dirty n true false

    behind : IsBehind m second out (without n pages) (untaken taken after)
    behind =
        let P : List Bool → Type 0 = λ d. Relates m second out (if_dirty still (untaken taken (record after { dirty = d }))) in
        record {
          late = still;
          among = without_both n late pages step_one.behind.among;
          relates = subst P cleared (relates_with m second out (if_dirty still (untaken taken copied)) after.machine step_two.relates same_state step_two.relates.honest);
        }

    same_parked : mid.machine ≡ p.machine
    same_parked = ap (λ (x : LiveParkedSeen). x.machine) call.rest

    parked : IsLiveParked after (over_with before (a_page addr n bytes)) mid
    parked = record {
      parked = subst (λ (q : ParkedSeen). IsParked after.machine (over_with before (a_page addr n bytes)) q) (sym same_parked) (record {
        lent = record {
          bytes = ap (λ (x : List ℕ). put_at x (4096 * n) bytes) lent.parked.lent.bytes;
          place = lent.parked.lent.place;
          versions_are = lent.parked.lent.versions_are;
        };
        devices_are = lent.parked.devices_are;
      });
      rest = ap (λ (x : LiveParkedSeen). record x { machine = mid.machine }) call.rest
          ∙ ap (λ (x : LiveParkedSeen). record x { machine = mid.machine; due = set x.due n false; dirty = set x.dirty n false; digest = mid.digest; out = mid.out }) lent.rest;
    }

    base_too : page_address l.machine n ≡ addr
    base_too = ap (λ (ds : List DeviceSeen). base_of (map (λ (d : DeviceSeen). d.state) ds) + 4096 * n) (sym lent.parked.devices_are) ∙ sym addr_is

    same_write : write ≡ MemWrite addr bytes
    same_write = same_event (page_address l.machine n) addr (page_of content n) bytes base_too page_is

    entry_is : record_of (machine_after m first) (items.page n) ≡ entry
    entry_is = ap (λ (x : MachineState). record_of x (items.page n)) (sym step_one.behind.relates.follows.machine) ∙ ap (page_record 2 n) held_page

    text_is : text m second ≡ text m h ++ page_text n bytes
    text_is = ap (λ (x : List ℕ). x ++ texts (record_of (machine_after m first) (items.page n) ∷ [])) (no_text m h write Done step_one.effect) ∙ ap (λ (x : List ℕ). text m h ++ x) (one_text (record_of (machine_after m first) (items.page n)) ∙ ap spelled_record entry_is)

    pub handed_in : GoesOnLent m h out taken pages before (a_page addr n bytes) p mid
    handed_in = record {
      history = second;
      after = after;
      behind = still_taken second (without n pages) after behind;
      came = ap (λ (e : Event). guest_events h ++ e ∷ []) same_write;
      text_is = text_is;
      parked = parked;
      places = record {
        sound = subst IsSound (sym same_state) there.places.sound;
        few = subst (λ (k : ℕ). k < 2 ^ 64) (sym (length-set l.due n false)) places.few;
        due_size = length-set l.due n false ∙ there.places.due_size ∙ ap (λ (x : MachineState). size_of (layout_of x)) (sym same_state);
        dirty_size = length-set l.dirty n false ∙ sym (length-set l.dirty n true) ∙ there.places.dirty_size ∙ ap (λ (x : MachineState). size_of (layout_of x)) (sym same_state);
      };
      memory = record { pages = long ∙ mem.pages; some = mem.some; few = mem.few };
      versions = ap (λ (q : ParkedSeen). length q.memory) same_parked;
      goes = goes;
    }
