-- A history goes on by one entry.
use Rattle.std.proofs.Common.{◌≡◌, ℕ, zero, suc, ◌<◌, ◌≤◌, None, List, [], ◌∷◌, length, Bool, false, ◌&&◌, not, nat_lt, refl, ap, sym, subst, ◌∙◌, inl, inr, arith}
use Rattle.dirtylog.specs.Members.{HasNone, IsLeast, has}
use Rattle.guestmem.specs.Item as items
use Rattle.machine.specs.Applied.{IsHonestFor}
use Rattle.machine.specs.Effect.{Effect, no_effect, applied}
use Rattle.machine.specs.Layout.{Layout, item_at, layout_of, size_of}
use Rattle.machine.specs.Outcome.{outcome_of}
use Rattle.machine.specs.Seen.{AreHonest, Marks, all_marks}
use Rattle.machine.specs.Sound.{IsSound}
use Rattle.machine.specs.State.{MachineState}
use Rattle.machine.specs.Step.{HasEffect}
use Rattle.machine.specs.declared.event.Event.{Event}
use Rattle.machine.specs.declared.event.Event.TheVariants as events
use Rattle.machine.proofs.Honest.{honest_effect}
use Rattle.machine.proofs.Numbering.{same_layout}
use Rattle.std.specs.Prelude.{All, IsTrue}
use Rattle.sender.specs.LiveState.{LiveSeen, HasPlaces, now, refusal_for, chosen, how_many, item_of, pages_among, sectors_among}
use Rattle.sender.specs.Calls.{Serves, Does, AfterBegin, AfterCopy, AfterRound, AfterStop, Guests, Stops, StopsShort, in_either}
use Rattle.sender.specs.History.{History, then_came, machine_after, is_stale, is_due, phase_of, AllowedBy, AllowedGuest, AllowedBegin, AllowedCopy, AllowedRound, AllowedStop, IsGoodIn, IsLeastDue, IsStaleItem, NoneBelow, IsNextRound, IsItsChange}
use Rattle.sender.specs.Follows.{CallsFollow, Follows, GoesOn, SetsAgree}
use Rattle.sender.specs.declared.phase.Phase.{Phase}
use Rattle.sender.specs.declared.phase.Phase.TheVariants as phases
use Rattle.sender.specs.declared.event.LiveEvent.{LiveEvent}
use Rattle.sender.specs.declared.event.LiveEvent.TheVariants.{Guest, Begin, Copy, EndRound, Stop}
use Rattle.sender.specs.declared.mig_error.MigError.{MigError}
use Rattle.sender.specs.declared.mig_error.MigError.TheVariants as errors
use Rattle.sender.specs.declared.event.LiveReply.{LiveReply}
use Rattle.sender.specs.declared.event.LiveReply.TheVariants as r
use Rattle.sender.proofs.Fresh.{told}
use Rattle.sender.proofs.Following.{IsLogged, quiet_done, quiet_open, quiet_unread, quiet_follows, refused_follows, guest_follows, begin_follows, open_if, agree_open, copied_follows, none_due, round_follows, failed_follows, sector_number, short_follows, stopped_follows}
use Rattle.sender.proofs.SectorReads.{honest_at}
use Rattle.sender.proofs.Stopping.{due_below, lt_or_le}

-- All disks are honest, so that of an event is.
pub honest_for : (marks : List Marks) (e : Event) → All (λ m. IsTrue m.honest) marks → IsHonestFor marks e
honest_for marks (events.Step dev pick) are = honest_at marks dev are
honest_for marks _ are = tt

no_member : (s : List Bool) (i : ℕ) → length s ≤ i → has s i ≡ false
no_member [] i past = refl
no_member (b ∷ s) zero past = absurd (omega (arith, past))
no_member (b ∷ s) (suc i) past = no_member s i (omega (arith, past))

-- Tests that agree below a number choose and count alike.
pub chosen_same : (p q : ℕ → Bool) (n : ℕ) → ((k : ℕ) → k < n → p k ≡ q k) → chosen p n ≡ chosen q n
chosen_same p q zero h = refl
chosen_same p q (suc n) h = rw (chosen_same p q n (λ k b. h k (omega (arith, b))), h n (omega arith)) refl

how_many_same : (p q : ℕ → Bool) (n : ℕ) → ((k : ℕ) → k < n → p k ≡ q k) → how_many p n ≡ how_many q n
how_many_same p q zero h = refl
how_many_same p q (suc n) h = rw (how_many_same p q n (λ k b. h k (omega (arith, b))), h n (omega arith)) refl

refused_fits : (e : LiveEvent) (x : MigError) → IsItsChange e (r.Mig x) no_effect
refused_fits (Guest e) x = refl
refused_fits Begin x = refl
refused_fits Copy x = refl
refused_fits EndRound x = refl
refused_fits Stop x = refl

module _ (m : MachineState) (h : History) (old new : LiveSeen) (f : Follows m h old) (places : HasPlaces old) (honest : AreHonest old.machine) where
  layout_now : layout_of (now old) ≡ layout_of m
  layout_now = same_layout m (now old) f.shape

  size_now : size_of (layout_of (now old)) ≡ size_of (layout_of m)
  size_now = ap size_of layout_now

  due_now : (item : items.Item) (number k : ℕ) → old.phase ≡ phases.Open k → IsLeast old.due 0 number → item ≡ item_at (layout_of (now old)) number → IsLeastDue (layout_of m) (is_due (layout_of m) h) item
  due_now item number k is least item_is =
      let a = agree_open m h old k f is in
      let n = sector_number m old item number f.shape item_is (due_below old number places least) in
      record {
        number = number;
        item_is = n.1;
        least = record {
          below = n.2;
          passes = sym (a.due number n.2) ∙ least.member;
          none_before = λ j b. sym (a.due j (omega (arith, b, n.2))) ∙ least.least j (omega arith) b;
        };
      }

  none_now : (k : ℕ) → old.phase ≡ phases.Open k → HasNone old.due → NoneBelow (is_due (layout_of m) h) (size_of (layout_of m))
  none_now k is none = none_due m h old places f.shape (agree_open m h old k f is) none

  none_at : (j : ℕ) → SetsAgree m h old → NoneBelow (is_due (layout_of m) h) (size_of (layout_of m)) → has old.due j ≡ false
  none_at j a none = elim (lt_or_le j (size_of (layout_of m))) as (λ _. has old.due j ≡ false) [
    | inl low ↦ a.due j low ∙ none j low
    | inr past ↦ no_member old.due j (omega (arith, past, places.due_size, size_now))
  ]

  some_now : (k : ℕ) → old.phase ≡ phases.Open k → ¬ (HasNone old.due) → ¬ (NoneBelow (is_due (layout_of m) h) (size_of (layout_of m)))
  some_now k is some none =
      let a = agree_open m h old k f is in
      some (λ j. none_at j a none)

  stale_now : (k : ℕ) → old.phase ≡ phases.Open k → (i : ℕ) → i < size_of (layout_of m) → in_either old i ≡ is_stale (layout_of m) h i
  stale_now k is i below = (agree_open m h old k f is).stale i below

  does_guest : (e : Event) (reply : LiveReply) → Guests old e reply new → (c : Effect) × Follows m (then_came h (Guest e) reply c) new × AllowedGuest (machine_after m h) e reply c × IsItsChange (Guest e) reply c
  does_guest e (r.Guest reply) d =
      let a = d.is_applied in
      let calls = honest_for (all_marks old.machine) e honest in
      let g : IsLogged old e reply new = record { effect = a.effect; has = honest_effect old.machine new.machine e reply a calls; changed = a.changed calls; dirty = d.dirty; phase = ap (λ (x : LiveSeen). x.phase) d.rest } in
      let P : MachineState → Type 0 = λ x. HasEffect x e (outcome_of reply) reply g.effect × IsSound (applied x g.effect) in
      (g.effect, guest_follows m h e reply old new f places g (ap (λ (x : LiveSeen). x.due) d.rest), subst P f.machine (g.has, subst IsSound g.changed d.is_applied.sound), tt)
  does_guest e _ d = absurd d

  does_begin : (reply : LiveReply) (c : Effect) → refusal_for old.phase Begin ≡ None → AfterBegin old reply new → Follows m (then_came h Begin reply c) new × AllowedBegin reply
  does_begin (r.Begun k) c free d = (begin_follows m h k c old new f free d.0 d.1, d.0)
  does_begin (r.Mig errors.StreamFailed) c free d = (failed_follows m h Begin c old new f d, tt)
  does_begin _ c free d = absurd d

  does_copy : (reply : LiveReply) (c : Effect) (k : ℕ) → old.phase ≡ phases.Open k → AfterCopy old reply new → Follows m (then_came h Copy reply c) new × AllowedCopy (layout_of m) (machine_after m h) (is_due (layout_of m) h) reply
  does_copy (r.Copied item) c k is d = (copied_follows m h item c k old new f places is d, due_now (item_of item) d.number k is d.least d.item_is)
  does_copy r.RoundDone c k is d = (
    quiet_follows m h Copy r.RoundDone c old new quiet_done refl (ap now d.1) (ap (λ (s : LiveSeen). s.phase) d.1) (ap (λ (s : LiveSeen). s.due) d.1) (ap (λ (s : LiveSeen). s.dirty) d.1) f,
    none_now k is d.0,
  )
  does_copy (r.Mig (errors.DiskFailed dev n)) c k is d = (
    quiet_follows m h Copy (r.Mig (errors.DiskFailed dev n)) c old new (quiet_unread dev n) refl d.unread.state (ap (λ (s : LiveSeen). s.phase) d.unread.rest) (ap (λ (s : LiveSeen). s.due) d.unread.rest) (ap (λ (s : LiveSeen). s.dirty) d.unread.rest) f,
    (due_now (items.sector dev n) d.number k is d.least d.item_is, subst (λ x. IsGoodIn x dev n) f.machine d.unread.good),
  )
  does_copy (r.Mig errors.StreamFailed) c k is d = (failed_follows m h Copy c old new f d, tt)
  does_copy _ c k is d = absurd d

  does_round : (reply : LiveReply) (c : Effect) (k : ℕ) → old.phase ≡ phases.Open k → AfterRound old reply new → Follows m (then_came h EndRound reply c) new × AllowedRound (layout_of m) (is_due (layout_of m) h) (phase_of h) reply
  does_round (r.Begun n) c k is d =
      let P : Phase → Type 0 = λ p. IsNextRound p n in
      (round_follows m h n c old new f places d.0 d.1, (none_now k is d.0, subst P (sym d.1.was ∙ f.phase) d.1.next))
  does_round r.RoundOpen c k is d = (
    quiet_follows m h EndRound r.RoundOpen c old new quiet_open refl (ap now d.1) (ap (λ (s : LiveSeen). s.phase) d.1) (ap (λ (s : LiveSeen). s.due) d.1) (ap (λ (s : LiveSeen). s.dirty) d.1) f,
    some_now k is d.0,
  )
  does_round (r.Mig errors.StreamFailed) c k is d = (failed_follows m h EndRound c old new f d, tt)
  does_round _ c k is d = absurd d

  stopped_now : (k pages sectors : ℕ) → old.phase ≡ phases.Open k → Stops old pages sectors new → AllowedStop (layout_of m) (machine_after m h) (is_stale (layout_of m) h) (r.Stopped pages sectors)
  stopped_now k pages sectors is s =
      let P : Layout → Type 0 = λ l. (pages ≡ pages_among l (in_either old) (size_of l)) × (sectors ≡ sectors_among l (in_either old) (size_of l)) in
      let here = subst P layout_now (s.pages_are, s.sectors_are) in
      let n = size_of (layout_of m) in
      let counted : (q : ℕ → Bool) → how_many (λ i. in_either old i && q i) n ≡ how_many (λ i. is_stale (layout_of m) h i && q i) n
      = λ q. how_many_same (λ i. in_either old i && q i) (λ i. is_stale (layout_of m) h i && q i) n (λ i b. ap (λ (x : Bool). x && q i) (stale_now k is i b)) in
      (here.0 ∙ counted (λ i. nat_lt i (layout_of m).pages), here.1 ∙ counted (λ i. not (nat_lt i (layout_of m).pages)))

  stale_item : (dev n k : ℕ) → old.phase ≡ phases.Open k → StopsShort old dev n new → IsStaleItem (layout_of m) (is_stale (layout_of m) h) (items.sector dev n)
  stale_item dev n k is d =
      let s = sector_number m old (items.sector dev n) d.number f.shape d.item_is d.below in
      record { number = d.number; item_is = s.1; below = s.2; is = sym (stale_now k is d.number s.2) ∙ d.member }

  does_stop : (reply : LiveReply) (c : Effect) (k : ℕ) → old.phase ≡ phases.Open k → AfterStop old reply new → Follows m (then_came h Stop reply c) new × AllowedStop (layout_of m) (machine_after m h) (is_stale (layout_of m) h) reply
  does_stop (r.Stopped pages sectors) c k is d = (stopped_follows m h pages sectors c old new f d, stopped_now k pages sectors is d)
  does_stop (r.Mig (errors.DiskFailed dev n)) c k is d = (
    short_follows m h dev n k c old new f is d,
    (stale_item dev n k is d, subst (λ x. IsGoodIn x dev n) (d.are_sent.machine.state ∙ f.machine) d.unread.good),
  )
  does_stop (r.Mig errors.StreamFailed) c k is d = (failed_follows m h Stop c old new f d, tt)
  does_stop _ c k is d = absurd d

  does : (e : LiveEvent) (reply : LiveReply) → refusal_for old.phase e ≡ None → Does old e reply new
      → (c : Effect) × Follows m (then_came h e reply c) new × AllowedBy (layout_of m) (machine_after m h) (is_stale (layout_of m) h) (is_due (layout_of m) h) (phase_of h) e reply c × IsItsChange e reply c
  does (Guest e) reply free d = does_guest e reply d
  does Begin reply free d = let x = does_begin reply no_effect free d in (no_effect, x.0, x.1, refl)
  does Copy reply free d = let o = open_if old.phase Copy (inl refl) free in let x = does_copy reply no_effect o.0 o.1 d in (no_effect, x.0, x.1, refl)
  does EndRound reply free d = let o = open_if old.phase EndRound (inr (inl refl)) free in let x = does_round reply no_effect o.0 o.1 d in (no_effect, x.0, x.1, refl)
  does Stop reply free d = let o = open_if old.phase Stop (inr (inr refl)) free in let x = does_stop reply no_effect o.0 o.1 d in (no_effect, x.0, x.1, refl)

  pub goes_on : (e : LiveEvent) (reply : LiveReply) → Serves old e reply new → GoesOn m h e reply new
  goes_on e reply s =
      let same : refusal_for old.phase e ≡ refusal_for (phase_of h) e = ap (λ (p : Phase). refusal_for p e) f.phase in
      elim (told (refusal_for old.phase e) (Does old e reply new) (λ x. (reply ≡ r.Mig x) × (new ≡ old)) s) as (λ _. GoesOn m h e reply new) [
        | inl a ↦ let d = does e reply a.0 a.1 in record { effect = d.0; follows = d.1; allowed = rw (sym same ∙ a.0) d.2; fits = d.3 }
        | inr b ↦ record { effect = no_effect; follows = rw b.2.0 (refused_follows m h e b.0 no_effect old new b.1 b.2.1 f); allowed = rw (sym same ∙ b.1) b.2.0; fits = rw b.2.0 (refused_fits e b.0) }
      ]

pub calls_follow : CallsFollow
calls_follow m h e reply old new f places honest s =
    let same : refusal_for old.phase e ≡ refusal_for (phase_of h) e = ap (λ (p : Phase). refusal_for p e) f.phase in
    elim (told (refusal_for old.phase e) (Does old e reply new) (λ x. (reply ≡ r.Mig x) × (new ≡ old)) s) as (λ _. GoesOn m h e reply new) [
      | inl a ↦ goes_on m h old new f places honest e reply s
      | inr b ↦ record { effect = no_effect; follows = rw b.2.0 (refused_follows m h e b.0 no_effect old new b.1 b.2.1 f); allowed = rw (sym same ∙ b.1) b.2.0; fits = rw b.2.0 (refused_fits e b.0) }
    ]
