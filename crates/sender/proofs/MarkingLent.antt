-- A mark of pages while the RAM is lent is the guest's writes of these pages, with the bytes that RAM has there by the history.
use Rattle.std.proofs.Common.{◌≡◌, ◌≢◌, ℕ, ◌||◌, ◌++◌, Bool, true, false, List, [], ◌∷◌, eqb, length, refl, sym, ap, subst, ◌∙◌, append-nil, inl, inr}
use Rattle.std.proofs.lemmas.Bool.{eqb-true}
use Rattle.region.specs.declared.region.Region.{Region}
use Rattle.guestmem.specs.Lent.{AreBelow, is_named}
use Rattle.guestmem.specs.Memory.{IsMemory}
use Rattle.machine.specs.Parked.{IsParked, ParkedSeen}
use Rattle.machine.specs.State.{MachineState}
use Rattle.machine.specs.declared.event.Event.{Event}
use Rattle.machine.proofs.Numbering.{either_way}
use Rattle.wire.specs.Sinks.{SinkState}
use Rattle.sender.specs.History.{History, guest_events, text}
use Rattle.sender.specs.LiveState.{HasPlaces, LiveSeen}
use Rattle.sender.specs.Marks.{AreAmong, BehindGoesOn, IsBehind, if_dirty, live_marked}
use Rattle.sender.specs.Parked.{IsLiveParked, LiveParkedSeen, live_base, page_writes, with_pages}
use Rattle.sender.specs.ParkedCalls.{MarksParked, a_mark, beside, parked_base}
use Rattle.sender.specs.Taking.{untaken}
use Rattle.sender.specs.declared.phase.Phase.TheVariants as phases
use Rattle.sender.proofs.Behind.{marks_catch_up}
use Rattle.sender.proofs.Flushed.{relates_with}
use Rattle.sender.proofs.Marking.{named_both, named_rest, or_behind}
use Rattle.sender.proofs.Parking.{length-with_pages}
use Rattle.sender.proofs.StepBeside.{GoesOnLent, base_is}
use Rattle.sender.proofs.Taking.{places_untaken}

or_first : (a b : Bool) → a ≡ true → (a || b) ≡ true
or_first a b is = rw is refl

-- A page that is not marked is still among the others.
kept : (k : ℕ) (marks pages : List ℕ) → is_named marks k ≡ false → is_named pages k ≡ true → is_named (beside marks pages) k ≡ true
kept k marks [] out named = cc
kept k marks (n ∷ pages) out named = elim (either_way (eqb k n)) as (λ _. is_named (beside marks (n ∷ pages)) k ≡ true) [
  | inl e ↦ let there : is_named marks n ≡ false = ap (is_named marks) (sym (eqb-true k n e)) ∙ out in rw (there, e) refl
  | inr e ↦ let rest = kept k marks pages out (rw e at named) in elim (either_way (is_named marks n)) as (λ _. is_named (beside marks (n ∷ pages)) k ≡ true) [
    | inl f ↦ rw f rest
    | inr f ↦ rw f (named_rest k n (beside marks pages) rest)
  ]
]

all_or_marked : (marks pages : List ℕ) → AreAmong pages (marks ++ beside marks pages)
all_or_marked marks pages k named =
    named_both k marks (beside marks pages)
    ∙ elim (either_way (is_named marks k)) as (λ _. (is_named marks k || is_named (beside marks pages) k) ≡ true) [
      | inl e ↦ or_first (is_named marks k) (is_named (beside marks pages) k) e
      | inr e ↦ or_behind (is_named marks k) (is_named (beside marks pages) k) (kept k marks pages e named)
    ]

module _ (m : MachineState) (h : History) (out : SinkState) (taken pages : List ℕ) (l : LiveSeen) (p mid : LiveParkedSeen) (before : Region) (b : IsBehind m h out pages (untaken taken l)) (places : HasPlaces l) (mem : IsMemory l.machine.memory) (goes : l.phase ≢ phases.Stopped) (lent : IsLiveParked l before p) where
  module _ (base : ℕ) (bytes marks : List ℕ) (base_at : base ≡ parked_base p) (call : MarksParked p marks mid) (saw : bytes ≡ before.content) where
    below : AreBelow (length l.machine.memory.versions) marks
    below = subst (λ (v : List ℕ). AreBelow (length v) marks) lent.parked.lent.versions_are call.below

    caught : BehindGoesOn m h out (page_writes (live_base l) marks l.machine.memory.bytes) (beside marks pages) (live_marked (untaken taken l) marks)
    caught = marks_catch_up m h out pages marks (beside marks pages) (untaken taken l) b (places_untaken taken l places) mem goes below (all_or_marked marks pages)

    -- It, with the versions that it had.
    abbrev after : LiveSeen
    after = record l { dirty = with_pages l.dirty marks }

    behind : IsBehind m caught.history out (beside marks pages) (untaken taken after)
    behind = record {
      late = caught.behind.late;
      among = caught.behind.among;
      relates = relates_with m caught.history out (if_dirty caught.behind.late (live_marked (untaken taken l) marks)) l.machine caught.behind.relates refl caught.behind.relates.honest;
    }

    same_parked : mid.machine ≡ p.machine
    same_parked = ap (λ (x : LiveParkedSeen). x.machine) call.rest

    -- The guest's writes.
    same_writes : page_writes (live_base l) marks l.machine.memory.bytes ≡ page_writes base marks bytes
    same_writes = rw (base_at, sym (base_is l p before lent), saw, sym lent.parked.lent.bytes) refl

    pub marked_lent : GoesOnLent m h out taken pages before (a_mark base bytes marks) p mid
    marked_lent = record {
      history = caught.history;
      after = after;
      behind = subst (λ (t : List ℕ). IsBehind m caught.history out (beside marks pages) (untaken t after)) (sym (append-nil taken)) behind;
      came = caught.came ∙ ap (λ (es : List Event). guest_events h ++ es) same_writes;
      text_is = caught.text_is ∙ sym (append-nil (text m h));
      parked = record {
        parked = subst (λ (q : ParkedSeen). IsParked l.machine before q) (sym same_parked) lent.parked;
        rest = ap (λ (x : LiveParkedSeen). record x { machine = mid.machine }) call.rest ∙ ap (λ (x : LiveParkedSeen). record x { machine = mid.machine; dirty = with_pages x.dirty marks }) lent.rest;
      };
      places = record { sound = places.sound; few = places.few; due_size = places.due_size; dirty_size = length-with_pages l.dirty marks ∙ places.dirty_size };
      memory = mem;
      versions = ap (λ (q : ParkedSeen). length q.memory) same_parked;
      goes = goes;
    }
