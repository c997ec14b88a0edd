-- The sets against the history.
use Rattle.std.proofs.Common.{◌≡◌, ◌≢◌, ℕ, ◌<◌, List, [], ◌∷◌, length, set, get_or, Some, None, Bool, true, false, ◌||◌, ◌&&◌, not, eqb, ltb, refl, ap, sym, subst, ◌∙◌, ◌⊎◌, inl, inr, arith}
use Rattle.std.proofs.Math.Bool.{or-true, and-true, and-false, or-false}
use Rattle.std.proofs.lemmas.Bool.{eqb-true, eqb-false}
use Rattle.std.proofs.lemmas.List.{get_or-set_same, get_or-set_other, length-set, get_or-replicate}
use borrow.Author.Tests.{ltb-true, ltb-false}
use Rattle.dirtylog.specs.Members.{HasNone, has}
use Rattle.guestmem.specs.Item as items
use Rattle.guestmem.specs.Item.{Item}
use Rattle.machine.specs.Effect.{Effect, applied, items_of}
use Rattle.machine.specs.EffectLaws.{IsSameShape}
use Rattle.machine.specs.Layout.{Layout, firsts_of, item_at, layout_of, number_of, size_of}
use Rattle.machine.specs.Outcome.{outcome_of}
use Rattle.machine.specs.Seen.{state_of}
use Rattle.machine.specs.State.{MachineState}
use Rattle.machine.specs.Step.{HasEffect}
use Rattle.machine.specs.declared.event.Event.{Event}
use Rattle.machine.specs.declared.reply.Reply.{Reply}
use Rattle.machine.proofs.Numbering.{either_way, number_back, same_layout}
use Rattle.machine.proofs.Within.{step_shape}
use Rattle.wire.specs.Stream.{texts}
use Rattle.sender.specs.LiveState.{LiveSeen, HasPlaces, now, refusal_for, last_round, item_of}
use Rattle.sender.specs.Calls.{AreCleared, BeginsFirstRound, Copies, EndsRound, Fails, IsSent, Stops, StopsShort, in_either, with_items}
use Rattle.sender.specs.History.{History, then_came, machine_after, went, touches, sends, is_stale, is_due, is_begun, phase_of, next_phase, sent, written, NoneBelow, is_numbered}
use Rattle.sender.specs.Follows.{SetsAgree, AgreesIn, Follows}
use Rattle.sender.specs.declared.phase.Phase.{Phase}
use Rattle.sender.specs.declared.phase.Phase.TheVariants as phases
use Rattle.sender.specs.declared.event.Item.{Item as Sent}
use Rattle.sender.specs.declared.event.LiveEvent.{LiveEvent}
use Rattle.sender.specs.declared.event.LiveEvent.TheVariants.{Guest, Begin, Copy, EndRound, Stop}
use Rattle.sender.specs.declared.mig_error.MigError.{MigError}
use Rattle.sender.specs.declared.mig_error.MigError.TheVariants as errors
use Rattle.sender.specs.declared.event.LiveReply.{LiveReply}
use Rattle.sender.specs.declared.event.LiveReply.TheVariants as r
use Rattle.sender.proofs.Fresh.{same_shape_after}
use Rattle.sender.proofs.Living.{member_below}
use Rattle.sender.proofs.Stopping.{either_same}

-- A member joins.
joins : (s : List Bool) (n i : ℕ) (more : Bool) → i < length s → (more || get_or (set s n true) i false) ≡ ((eqb i n || more) || get_or s i false)
joins s n i more below = elim (either_way (eqb i n)) as (λ _. (more || get_or (set s n true) i false) ≡ ((eqb i n || more) || get_or s i false)) [
  | inl e ↦ let same : n ≡ i = sym (eqb-true i n e) in rw (e, same, get_or-set_same s i true false below) (or-true more)
  | inr e ↦ let other : i ≢ n = eqb-false i n e in rw (e, get_or-set_other s n i true false other) refl
]

-- The members of a set that items joined.
pub with_items_at : (l : Layout) (s : List Bool) (is : List Item) (i : ℕ) → i < length s → get_or (with_items (firsts_of l) s is) i false ≡ (is_numbered l is i || get_or s i false)
with_items_at l s [] i below = refl
with_items_at l s (item ∷ is) i below =
    with_items_at l (set s (number_of l item) true) is i (rw length-set below) ∙ joins s (number_of l item) i (is_numbered l is i) below

-- An entry that sends nothing, touches nothing and begins nothing.
pub record IsQuiet (e : LiveEvent) (reply : LiveReply) : Type 0 where
  pub same : (m : MachineState) (c : Effect) → went m e reply c ≡ m
  pub untouched : (l : Layout) (c : Effect) (i : ℕ) → touches l e reply c i ≡ false
  pub unsent : (l : Layout) (stale : ℕ → Bool) (i : ℕ) → sends l stale e reply i ≡ false
  pub unbegun : is_begun reply ≡ false
  pub empty : (m : MachineState) (stale : ℕ → Bool) → sent m stale e reply ≡ []
  pub unwritten : (before : List ℕ) (m : MachineState) (stale : ℕ → Bool) → written before m stale e reply ≡ []

pub quiet_stale : (l : Layout) (h : History) (e : LiveEvent) (reply : LiveReply) (c : Effect) (i : ℕ) → IsQuiet e reply → is_stale l (then_came h e reply c) i ≡ is_stale l h i
quiet_stale l h e reply c i q = rw (q.untouched l c i, q.unsent l (is_stale l h) i) (and-true (is_stale l h i))

quiet_due : (l : Layout) (h : History) (e : LiveEvent) (reply : LiveReply) (c : Effect) (i : ℕ) → IsQuiet e reply → is_due l (then_came h e reply c) i ≡ is_due l h i
quiet_due l h e reply c i q = rw (q.unbegun, q.unsent l (is_stale l h) i) (and-true (is_due l h i))

agrees_on : (p : Phase) (m : MachineState) (h : History) (e : LiveEvent) (reply : LiveReply) (c : Effect) (old new : LiveSeen) → IsQuiet e reply → new.due ≡ old.due → new.dirty ≡ old.dirty → AgreesIn p m h old → AgreesIn p m (then_came h e reply c) new
agrees_on phases.Fresh m h e reply c old new q due dirty a = λ i. quiet_stale (layout_of m) h e reply c i q ∙ a i
agrees_on (phases.Open k) m h e reply c old new q due dirty a = record {
  due = λ i below. rw due (a.due i below ∙ sym (quiet_due (layout_of m) h e reply c i q));
  stale = λ i below. rw (due, dirty) (a.stale i below ∙ sym (quiet_stale (layout_of m) h e reply c i q));
}
agrees_on phases.Stopped m h e reply c old new q due dirty a = tt
agrees_on phases.Failed m h e reply c old new q due dirty a = tt

pub quiet_follows : (m : MachineState) (h : History) (e : LiveEvent) (reply : LiveReply) (c : Effect) (old new : LiveSeen) → IsQuiet e reply → next_phase (phase_of h) reply ≡ phase_of h
    → now new ≡ now old → new.phase ≡ old.phase → new.due ≡ old.due → new.dirty ≡ old.dirty → Follows m h old → Follows m (then_came h e reply c) new
quiet_follows m h e reply c old new q stays machine phase due dirty f = record {
  machine = machine ∙ f.machine ∙ sym (q.same (machine_after m h) c);
  shape = subst (λ x. IsSameShape m x) (sym machine) f.shape;
  phase = phase ∙ f.phase ∙ sym stays;
  sets = let P : Phase → Type 0 = λ p. AgreesIn p m (then_came h e reply c) new in subst P (sym stays) (agrees_on (phase_of h) m h e reply c old new q due dirty f.sets);
}

-- A refusal that names no disk.
abbrev pub NamesNone : MigError → Type 0
NamesNone (errors.DiskFailed dev n) = ⊥
NamesNone x = Unit {0}

pub no_disk : (p : Phase) (e : LiveEvent) (x : MigError) → refusal_for p e ≡ Some x → NamesNone x
no_disk p e errors.StreamFailed is = tt
no_disk p e errors.NotBegun is = tt
no_disk p e errors.AlreadyBegun is = tt
no_disk p e errors.AlreadyStopped is = tt
no_disk p e errors.RoundsEnded is = tt
no_disk phases.Failed (Guest e) (errors.DiskFailed dev n) is = cc
no_disk phases.Failed Begin (errors.DiskFailed dev n) is = cc
no_disk phases.Failed Copy (errors.DiskFailed dev n) is = cc
no_disk phases.Failed EndRound (errors.DiskFailed dev n) is = cc
no_disk phases.Failed Stop (errors.DiskFailed dev n) is = cc
no_disk phases.Stopped e (errors.DiskFailed dev n) is = cc
no_disk phases.Fresh (Guest e) (errors.DiskFailed dev n) is = cc
no_disk phases.Fresh Begin (errors.DiskFailed dev n) is = cc
no_disk phases.Fresh Copy (errors.DiskFailed dev n) is = cc
no_disk phases.Fresh EndRound (errors.DiskFailed dev n) is = cc
no_disk phases.Fresh Stop (errors.DiskFailed dev n) is = cc
no_disk (phases.Open k) (Guest e) (errors.DiskFailed dev n) is = cc
no_disk (phases.Open k) Begin (errors.DiskFailed dev n) is = cc
no_disk (phases.Open k) Copy (errors.DiskFailed dev n) is = cc
no_disk (phases.Open k) EndRound (errors.DiskFailed dev n) is = elim (either_way (eqb k last_round)) as (λ _. NamesNone (errors.DiskFailed dev n)) [ inl b ↦ (let h = rw b at is in cc) | inr b ↦ (let h = rw b at is in cc) ]
no_disk (phases.Open k) Stop (errors.DiskFailed dev n) is = cc

pub quiet_mig : (e : LiveEvent) (x : MigError) → NamesNone x → IsQuiet e (r.Mig x)
unfolding texts
quiet_mig Stop (errors.DiskFailed dev n) none = absurd none
quiet_mig _ _ none = record { same = λ m c. refl; untouched = λ l c i. refl; unsent = λ l stale i. refl; unbegun = refl; empty = λ m stale. refl; unwritten = λ b m stale. refl }

pub quiet_unread : (dev n : ℕ) → IsQuiet Copy (r.Mig (errors.DiskFailed dev n))
unfolding texts
quiet_unread dev n = record { same = λ m c. refl; untouched = λ l c i. refl; unsent = λ l stale i. refl; unbegun = refl; empty = λ m stale. refl; unwritten = λ b m stale. refl }

pub quiet_done : IsQuiet Copy r.RoundDone
unfolding texts
quiet_done = record { same = λ m c. refl; untouched = λ l c i. refl; unsent = λ l stale i. refl; unbegun = refl; empty = λ m stale. refl; unwritten = λ b m stale. refl }

pub quiet_open : IsQuiet EndRound r.RoundOpen
unfolding texts
quiet_open = record { same = λ m c. refl; untouched = λ l c i. refl; unsent = λ l stale i. refl; unbegun = refl; empty = λ m stale. refl; unwritten = λ b m stale. refl }

-- The phase after its own refusal.
pub refused_stays : (p : Phase) (e : LiveEvent) (x : MigError) → refusal_for p e ≡ Some x → next_phase p (r.Mig x) ≡ p
refused_stays p e errors.AlreadyStopped is = refl
refused_stays p e errors.NotBegun is = refl
refused_stays p e errors.AlreadyBegun is = refl
refused_stays p e errors.RoundsEnded is = refl
refused_stays p e (errors.DiskFailed dev n) is = refl
refused_stays phases.Failed e errors.StreamFailed is = refl
refused_stays phases.Stopped e errors.StreamFailed is = cc
refused_stays phases.Fresh (Guest e) errors.StreamFailed is = cc
refused_stays phases.Fresh Begin errors.StreamFailed is = cc
refused_stays phases.Fresh Copy errors.StreamFailed is = cc
refused_stays phases.Fresh EndRound errors.StreamFailed is = cc
refused_stays phases.Fresh Stop errors.StreamFailed is = cc
refused_stays (phases.Open k) (Guest e) errors.StreamFailed is = cc
refused_stays (phases.Open k) Begin errors.StreamFailed is = cc
refused_stays (phases.Open k) Copy errors.StreamFailed is = cc
refused_stays (phases.Open k) EndRound errors.StreamFailed is = elim (either_way (eqb k last_round)) as (λ _. next_phase (phases.Open k) (r.Mig errors.StreamFailed) ≡ phases.Open k) [ inl b ↦ (let h = rw b at is in cc) | inr b ↦ (let h = rw b at is in cc) ]
refused_stays (phases.Open k) Stop errors.StreamFailed is = cc

pub refused_follows : (m : MachineState) (h : History) (e : LiveEvent) (x : MigError) (c : Effect) (old new : LiveSeen) → refusal_for old.phase e ≡ Some x → new ≡ old → Follows m h old → Follows m (then_came h e (r.Mig x) c) new
refused_follows m h e x c old new is same f =
    let P : Phase → Type 0 = λ p. refusal_for p e ≡ Some x in
    let here : refusal_for (phase_of h) e ≡ Some x = subst P f.phase is in
    quiet_follows m h e (r.Mig x) c old new (quiet_mig e x (no_disk (phase_of h) e x here)) (refused_stays (phase_of h) e x here)
    (ap now same) (ap (λ (s : LiveSeen). s.phase) same) (ap (λ (s : LiveSeen). s.due) same) (ap (λ (s : LiveSeen). s.dirty) same) f

or_swap : (a t b : Bool) → (a || (t || b)) ≡ (t || (a || b))
or_swap a true b = or-true a
or_swap a false b = refl

-- A guest's event.

-- A step of the machine, whose items became dirty.
pub record IsLogged (old : LiveSeen) (e : Event) (reply : Reply) (new : LiveSeen) : Type 0 where
  pub effect : Effect
  pub has : HasEffect (now old) e (outcome_of reply) reply effect
  pub changed : now new ≡ applied (now old) effect
  pub dirty : new.dirty ≡ with_items (firsts_of (layout_of (now old))) old.dirty (items_of effect)
  pub phase : new.phase ≡ old.phase

guest_agrees : (p : Phase) (m : MachineState) (h : History) (e : Event) (reply : Reply) (old new : LiveSeen) → IsSameShape m (now old) → HasPlaces old → (g : IsLogged old e reply new) → new.due ≡ old.due → AgreesIn p m h old → AgreesIn p m (then_came h (Guest e) (r.Guest reply) g.effect) new
guest_agrees phases.Fresh m h e reply old new shape places g due a = λ i. rw (a i) (or-true (touches (layout_of m) (Guest e) (r.Guest reply) g.effect i))
guest_agrees (phases.Open k) m h e reply old new shape places g due a =
    let same : layout_of (now old) ≡ layout_of m = same_layout m (now old) shape in
    let dirty : new.dirty ≡ with_items (firsts_of (layout_of m)) old.dirty (items_of g.effect) = g.dirty ∙ ap (λ (l : Layout). with_items (firsts_of l) old.dirty (items_of g.effect)) same in
    record {
      due = λ i below. rw due (a.due i below ∙ sym (and-true (is_due (layout_of m) h i)));
      stale = λ i below.
          let low : i < length old.dirty = omega (arith, below, places.dirty_size, ap size_of same) in
          let joined = with_items_at (layout_of m) old.dirty (items_of g.effect) i low in
          rw (due, dirty, joined, or_swap, and-true) (ap (λ (b : Bool). is_numbered (layout_of m) (items_of g.effect) i || b) (a.stale i below));
    }
guest_agrees phases.Stopped m h e reply old new shape places g due a = tt
guest_agrees phases.Failed m h e reply old new shape places g due a = tt

pub guest_follows : (m : MachineState) (h : History) (e : Event) (reply : Reply) (old new : LiveSeen) → Follows m h old → HasPlaces old → (g : IsLogged old e reply new) → new.due ≡ old.due → Follows m (then_came h (Guest e) (r.Guest reply) g.effect) new
guest_follows m h e reply old new f places g due = record {
  machine = g.changed ∙ ap (λ (x : MachineState). applied x g.effect) f.machine;
  shape = (let P : MachineState → Type 0 = λ x. IsSameShape m x in
      subst P (sym g.changed) (same_shape_after m (now old) (applied (now old) g.effect) f.shape (step_shape (now old) e (outcome_of reply) reply g.effect g.has)));
  phase = g.phase ∙ f.phase;
  sets = guest_agrees (phase_of h) m h e reply old new f.shape places g due f.sets;
}

-- The beginning.

pub fresh_if : (p : Phase) → refusal_for p Begin ≡ None → p ≡ phases.Fresh
fresh_if phases.Fresh free = refl
fresh_if (phases.Open k) free = cc
fresh_if phases.Stopped free = cc
fresh_if phases.Failed free = cc

still_shape : (m : MachineState) (old new : LiveSeen) → now new ≡ now old → IsSameShape m (now old) → IsSameShape m (now new)
still_shape m old new same shape = subst (IsSameShape m) (sym same) shape

same_size : (m s : MachineState) → IsSameShape m s → size_of (layout_of s) ≡ size_of (layout_of m)
same_size m s h = ap size_of (same_layout m s h)

pub begin_follows : (m : MachineState) (h : History) (k : ℕ) (c : Effect) (old new : LiveSeen) → Follows m h old → refusal_for old.phase Begin ≡ None → k ≡ 1 → BeginsFirstRound old new → Follows m (then_came h Begin (r.Begun k) c) new
begin_follows m h k c old new f free one b =
    let fresh : phase_of h ≡ phases.Fresh = sym f.phase ∙ fresh_if old.phase free in
    let P : Phase → Type 0 = λ p. AgreesIn p m h old in
    let all : (i : ℕ) → is_stale (layout_of m) h i ≡ true = subst P fresh f.sets in
    let size = same_size m (now old) f.shape in
    record {
      machine = ap state_of b.machine ∙ f.machine;
      shape = still_shape m old new (ap state_of b.machine) f.shape;
      phase = b.phase ∙ ap phases.Open (sym one);
      sets = record {
        due = λ i below. let low : i < size_of (layout_of (now old)) = omega (arith, below, size) in rw (b.due, all i) (get_or-replicate (size_of (layout_of (now old))) i true false low);
        stale = λ i below. let low : i < size_of (layout_of (now old)) = omega (arith, below, size) in rw (b.due, all i, get_or-replicate (size_of (layout_of (now old))) i true false low) refl;
      };
    }

-- One item is sent.

after_removal : (s : List Bool) (j i : ℕ) → j < length s → get_or (set s j false) i false ≡ (get_or s i false && not (eqb i j))
after_removal s j i below = elim (either_way (eqb i j)) as (λ _. get_or (set s j false) i false ≡ (get_or s i false && not (eqb i j))) [
  | inl e ↦ let same : i ≡ j = eqb-true i j e in rw (e, same, get_or-set_same s j false false below) (sym (and-false (get_or s j false)))
  | inr e ↦ let other : i ≢ j = eqb-false i j e in rw (e, get_or-set_other s j i false false other) (sym (and-true (get_or s i false)))
]

or_and : (a b c : Bool) → ((a && c) || (b && c)) ≡ ((a || b) && c)
or_and true true true = refl
or_and true true false = refl
or_and true false true = refl
or_and true false false = refl
or_and false true true = refl
or_and false true false = refl
or_and false false true = refl
or_and false false false = refl

copied_agrees : (m : MachineState) (h : History) (item : Sent) (c : Effect) (j : ℕ) (old new : LiveSeen) → number_of (layout_of m) (item_of item) ≡ j → j < length old.due → j < length old.dirty → IsSent old j new → SetsAgree m h old → SetsAgree m (then_came h Copy (r.Copied item) c) new
copied_agrees m h item c j old new is in_due in_dirty s a = record {
  due = λ i below. rw (is, s.due, after_removal old.due j i in_due, a.due i below) refl;
  stale = λ i below. rw (is, s.due, s.dirty, after_removal old.due j i in_due, after_removal old.dirty j i in_dirty, or_and) (ap (λ (b : Bool). b && not (eqb i j)) (a.stale i below));
}

-- A phase in which a copy, a round's end or a stop is not refused.
pub open_if : (p : Phase) (e : LiveEvent) → (e ≡ Copy) ⊎ ((e ≡ EndRound) ⊎ (e ≡ Stop)) → refusal_for p e ≡ None → (k : ℕ) × (p ≡ phases.Open k)
open_if (phases.Open k) e which free = (k, refl)
open_if phases.Stopped e which free = cc
open_if phases.Failed e (inl c) free = let x = rw c at free in cc
open_if phases.Failed e (inr (inl c)) free = let x = rw c at free in cc
open_if phases.Failed e (inr (inr c)) free = let x = rw c at free in cc
open_if phases.Fresh e (inl c) free = let x = rw c at free in cc
open_if phases.Fresh e (inr (inl c)) free = let x = rw c at free in cc
open_if phases.Fresh e (inr (inr c)) free = let x = rw c at free in cc

pub agree_open : (m : MachineState) (h : History) (old : LiveSeen) (k : ℕ) → Follows m h old → old.phase ≡ phases.Open k → SetsAgree m h old
agree_open m h old k f is = let P : Phase → Type 0 = λ p. AgreesIn p m h old in subst P (sym f.phase ∙ is) f.sets

-- The number of the item that was copied.
pub copied_number : (m : MachineState) (old new : LiveSeen) (item : Sent) → IsSameShape m (now old) → HasPlaces old → (s : Copies old item new)
    → (number_of (layout_of m) (item_of item) ≡ s.number) × (item_of item ≡ item_at (layout_of m) s.number) × (s.number < size_of (layout_of m))
copied_number m old new item shape places s =
    let same = same_layout m (now old) shape in
    let below : s.number < size_of (layout_of m) = omega (arith, member_below old.due s.number s.least.member, places.due_size, ap size_of same) in
    let is : item_of item ≡ item_at (layout_of m) s.number = s.item_is ∙ ap (λ (l : Layout). item_at l s.number) same in
    (ap (number_of (layout_of m)) is ∙ number_back (layout_of m) s.number below, is, below)

pub copied_follows : (m : MachineState) (h : History) (item : Sent) (c : Effect) (k : ℕ) (old new : LiveSeen) → Follows m h old → HasPlaces old → old.phase ≡ phases.Open k → Copies old item new → Follows m (then_came h Copy (r.Copied item) c) new
copied_follows m h item c k old new f places is s =
    let P : Phase → Type 0 = λ p. AgreesIn p m (then_came h Copy (r.Copied item) c) new in
    let here : phase_of h ≡ phases.Open k = sym f.phase ∙ is in
    let in_dirty : s.number < length old.dirty = omega (arith, member_below old.due s.number s.least.member, places.due_size, places.dirty_size) in
    record {
      machine = s.sent.machine.state ∙ f.machine;
      shape = still_shape m old new s.sent.machine.state f.shape;
      phase = s.sent.phase ∙ f.phase;
      sets = subst P (sym here) (copied_agrees m h item c s.number old new (copied_number m old new item f.shape places s).0 (member_below old.due s.number s.least.member) in_dirty s.sent (agree_open m h old k f is));
    }

-- A round ends.

pub none_due : (m : MachineState) (h : History) (old : LiveSeen) → HasPlaces old → IsSameShape m (now old) → SetsAgree m h old → HasNone old.due → NoneBelow (is_due (layout_of m) h) (size_of (layout_of m))
none_due m h old places shape a none = λ i below. sym (a.due i below) ∙ none i

round_agrees : (m : MachineState) (h : History) (k : ℕ) (c : Effect) (old new : LiveSeen) → HasPlaces old → IsSameShape m (now old) → HasNone old.due → EndsRound old k new → SetsAgree m h old → SetsAgree m (then_came h EndRound (r.Begun k) c) new
round_agrees m h k c old new places shape none s a =
    let size = same_size m (now old) shape in
    let free : (i : ℕ) → i < size_of (layout_of m) → has old.due i ≡ false = λ i below. none i in
    let dirty : (i : ℕ) → i < size_of (layout_of m) → has old.dirty i ≡ is_stale (layout_of m) h i = λ i below.
    (ap (λ (b : Bool). b || has old.dirty i) (sym (free i below))) ∙ a.stale i below in
    record {
      due = λ i below. rw (s.due, and-true) (dirty i below);
      stale = λ i below. let low : i < size_of (layout_of (now old)) = omega (arith, below, size) in
          rw (s.due, s.dirty, get_or-replicate (size_of (layout_of (now old))) i false false low, or-false, and-true) (dirty i below);
    }

pub round_follows : (m : MachineState) (h : History) (k : ℕ) (c : Effect) (old new : LiveSeen) → Follows m h old → HasPlaces old → HasNone old.due → EndsRound old k new → Follows m (then_came h EndRound (r.Begun k) c) new
round_follows m h k c old new f places none s = record {
  machine = ap state_of s.machine ∙ f.machine;
  shape = still_shape m old new (ap state_of s.machine) f.shape;
  phase = s.phase;
  sets = round_agrees m h k c old new places f.shape none s (agree_open m h old s.round f s.was);
}

-- The writer failed.

pub failed_follows : (m : MachineState) (h : History) (e : LiveEvent) (c : Effect) (old new : LiveSeen) → Follows m h old → Fails old new → Follows m (then_came h e (r.Mig errors.StreamFailed) c) new
failed_follows m h e c old new f s = record {
  machine = s.machine.state ∙ f.machine ∙ sym ((quiet_mig e errors.StreamFailed tt).same (machine_after m h) c);
  shape = still_shape m old new s.machine.state f.shape;
  phase = s.phase;
  sets = tt;
}

-- The stop.

pub stopped_follows : (m : MachineState) (h : History) (pages sectors : ℕ) (c : Effect) (old new : LiveSeen) → Follows m h old → Stops old pages sectors new → Follows m (then_came h Stop (r.Stopped pages sectors) c) new
stopped_follows m h pages sectors c old new f s = record {
  machine = s.machine.state ∙ f.machine;
  shape = still_shape m old new s.machine.state f.shape;
  phase = s.phase;
  sets = tt;
}

-- A stop that came to a sector that was not read.

short_due : (d s b : Bool) → (d ≡ true → s ≡ true) → b ≡ true → false ≡ (d && not (s && b))
short_due true s b f e = rw (f refl, e) refl
short_due false s b f e = refl

short_rest : (d s b : Bool) → b ≡ false → d ≡ (d && not (s && b))
short_rest d s b e = rw (e, and-false s, and-true d) refl

or_due : (a b s : Bool) → (a || b) ≡ s → a ≡ true → s ≡ true
or_due true b s e is = sym e
or_due false b s e is = cc

left_none : (a b : Bool) → (a || b) ≡ false → a ≡ false
left_none true b e = cc
left_none false b e = refl

short_agrees : (m : MachineState) (h : History) (dev n j : ℕ) (c : Effect) (old between new : LiveSeen) → number_of (layout_of m) (items.sector dev n) ≡ j → AreCleared old j between → new.due ≡ between.due → new.dirty ≡ between.dirty → SetsAgree m h old
    → SetsAgree m (then_came h Stop (r.Mig (errors.DiskFailed dev n)) c) new
short_agrees m h dev n j c old between new is cleared due dirty a = record {
  due = λ i below. rw (is, due) (elim (either_way (ltb i j)) as (λ _. has between.due i ≡ (is_due (layout_of m) h i && not (is_stale (layout_of m) h i && ltb i j))) [
    | inl e ↦
        left_none (has between.due i) (has between.dirty i) (cleared.gone i (ltb-true i j e))
        ∙ short_due (is_due (layout_of m) h i) (is_stale (layout_of m) h i) (ltb i j) (λ d. or_due (has old.due i) (has old.dirty i) (is_stale (layout_of m) h i) (a.stale i below) (a.due i below ∙ d)) e
    | inr e ↦ cleared.due i (ltb-false i j e) ∙ a.due i below ∙ short_rest (is_due (layout_of m) h i) (is_stale (layout_of m) h i) (ltb i j) e
  ]);
  stale = λ i below. rw (is, due, dirty) (elim (either_way (ltb i j)) as (λ _. in_either between i ≡ (is_stale (layout_of m) h i && not (is_stale (layout_of m) h i && ltb i j))) [
    | inl e ↦ cleared.gone i (ltb-true i j e) ∙ short_due (is_stale (layout_of m) h i) (is_stale (layout_of m) h i) (ltb i j) (λ x. x) e
    | inr e ↦ either_same old between j i cleared (ltb-false i j e) ∙ a.stale i below ∙ short_rest (is_stale (layout_of m) h i) (is_stale (layout_of m) h i) (ltb i j) e
  ]);
}

-- The number of the sector that was not read.
pub sector_number : (m : MachineState) (old : LiveSeen) (item : items.Item) (number : ℕ) → IsSameShape m (now old) → item ≡ item_at (layout_of (now old)) number → number < size_of (layout_of (now old))
    → (number_of (layout_of m) item ≡ number) × (item ≡ item_at (layout_of m) number) × (number < size_of (layout_of m))
sector_number m old item number shape item_is low =
    let same = same_layout m (now old) shape in
    let below : number < size_of (layout_of m) = omega (arith, low, ap size_of same) in
    let is : item ≡ item_at (layout_of m) number = item_is ∙ ap (λ (l : Layout). item_at l number) same in
    (ap (number_of (layout_of m)) is ∙ number_back (layout_of m) number below, is, below)

pub short_follows : (m : MachineState) (h : History) (dev n k : ℕ) (c : Effect) (old new : LiveSeen) → Follows m h old → old.phase ≡ phases.Open k → StopsShort old dev n new → Follows m (then_came h Stop (r.Mig (errors.DiskFailed dev n)) c) new
short_follows m h dev n k c old new f is s =
    let P : Phase → Type 0 = λ p. AgreesIn p m (then_came h Stop (r.Mig (errors.DiskFailed dev n)) c) new in
    let here : phase_of h ≡ phases.Open k = sym f.phase ∙ is in
    let state : now new ≡ now old = s.unread.state ∙ s.are_sent.machine.state in
    record {
      machine = state ∙ f.machine;
      shape = subst (λ x. IsSameShape m x) (sym state) f.shape;
      phase = ap (λ (x : LiveSeen). x.phase) s.unread.rest ∙ s.are_sent.phase ∙ f.phase;
      sets = subst P (sym here) (short_agrees m h dev n s.number c old s.between new (sector_number m old (items.sector dev n) s.number f.shape s.item_is s.below).0 s.are_sent.sets
          (ap (λ (x : LiveSeen). x.due) s.unread.rest) (ap (λ (x : LiveSeen). x.dirty) s.unread.rest) (agree_open m h old k f is));
    }
