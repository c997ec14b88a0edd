-- An item that is not stale is as the last record that names it says.
use Rattle.std.proofs.Common.{◌≡◌, ◌≢◌, ℕ, zero, suc, ◌-◌, ◌<◌, ◌≤◌, List, [], ◌∷◌, ◌++◌, ◌⊎◌, Option, Some, None, Bool, true, false, cond, ◌||◌, ◌&&◌, not, eqb, ltb, refl, ap, sym, subst, ◌∙◌, inl, inr, arith, append-nil}
use Rattle.std.specs.Prelude.{MatchOption}
use Rattle.std.proofs.Math.Bool.{and-true, and-false}
use Rattle.std.proofs.lemmas.Bool.{eqb-true, eqb-false, lt-ltb, or_parts}
use Rattle.std.proofs.lemmas.List.{map-append}
use borrow.Author.Tests.{ltb-true, ltb-false}
use Rattle.guestmem.specs.Among.{Among}
use Rattle.guestmem.specs.Item as items
use Rattle.machine.specs.Effect.{Effect, applied, items_of}
use Rattle.machine.specs.EffectLaws.{IsSameShape}
use Rattle.machine.specs.Layout.{Layout, item_at, layout_of, number_of, size_of}
use Rattle.machine.specs.Outcome.{outcome_of}
use Rattle.machine.specs.State.{MachineState}
use Rattle.machine.proofs.Effects.{untouched}
use Rattle.machine.proofs.Numbering.{either_way, is_past, number_back, same_layout}
use Rattle.machine.proofs.Within.{step_shape}
use Rattle.wire.specs.Records.{page_record, sector, round_end}
use Rattle.wire.specs.Stream.{content_of, last_named, or_else, record_of}
use Rattle.wire.proofs.ItemRecords.{named-append, named_nothing, named_one, says_at}
use Rattle.sender.specs.History.{AllAllowed, Allowed, AllowedBy, History, entries, is_due, is_numbered, is_stale, machine_after, nothing, phase_of, sends, sent, then_came, touches, went}
use Rattle.sender.specs.HistoryLaws.{FreshIsLast, IsFreshItem, StaleIsNotFresh}
use Rattle.sender.specs.LiveState.{chosen, item_of, records_of, refusal_for}
use Rattle.sender.specs.declared.phase.Phase.{Phase}
use Rattle.sender.specs.declared.phase.Phase.TheVariants as phases
use Rattle.sender.specs.declared.event.LiveEvent.{LiveEvent}
use Rattle.sender.specs.declared.event.LiveEvent.TheVariants.{Guest, Begin, Copy, EndRound, Stop}
use Rattle.sender.specs.declared.mig_error.MigError.{MigError}
use Rattle.sender.specs.declared.mig_error.MigError.TheVariants as errors
use Rattle.sender.specs.declared.event.LiveReply.{LiveReply}
use Rattle.sender.specs.declared.event.LiveReply.TheVariants as r

-- The parts of an answer.
pub told : (o : Option MigError) (A : Type 0) (B : MigError → Type 0) → MatchOption o A B → ((o ≡ None) × A) ⊎ ((x : MigError) × (o ≡ Some x) × B x)
told None A B h = inl (refl, h)
told (Some x) A B h = inr (x, refl, h)

-- The machine keeps its shape.
pub same_as_it_is : (m : MachineState) → IsSameShape m m
same_as_it_is m = record { ram = refl; devices = refl; disks = refl }

pub same_shape_after : (m k n : MachineState) → IsSameShape m k → IsSameShape k n → IsSameShape m n
same_shape_after m k n h g = record { ram = g.ram ∙ h.ram; devices = g.devices ∙ h.devices; disks = g.disks ∙ h.disks }

pub shape_went : (m : MachineState) (h : History) (e : LiveEvent) (reply : LiveReply) (c : Effect) → Allowed m h e reply c → IsSameShape (machine_after m h) (went (machine_after m h) e reply c)
shape_went m h (Guest e) (r.Guest reply) c a =
    elim (told (refusal_for (phase_of h) (Guest e)) (AllowedBy (layout_of m) (machine_after m h) (is_stale (layout_of m) h) (is_due (layout_of m) h) (phase_of h) (Guest e) (r.Guest reply) c) (λ x. r.Guest reply ≡ r.Mig x) a)
    as (λ _. IsSameShape (machine_after m h) (applied (machine_after m h) c))
    [ inl d ↦ step_shape (machine_after m h) e (outcome_of reply) reply c d.1.0 | inr d ↦ (let wrong : r.Guest reply ≡ r.Mig d.0 = d.2 in cc) ]
shape_went m h _ _ c a = same_as_it_is (machine_after m h)

pub shape_after : (m : MachineState) (h : History) → AllAllowed m h → IsSameShape m (machine_after m h)
shape_after m nothing a = same_as_it_is m
shape_after m (then_came h e reply c) a = same_shape_after m (machine_after m h) (went (machine_after m h) e reply c) (shape_after m h a.0) (shape_went m h e reply c a.1)

-- An item that an event does not touch stays.
pub not_among : (l : Layout) (is : List items.Item) (it : items.Item) → is_numbered l is (number_of l it) ≡ false → ¬ (Among is it)
not_among l [] it none h = h
not_among l (i ∷ is) it none (inl e) =
    let parts = or_parts (eqb (number_of l it) (number_of l i)) (is_numbered l is (number_of l it)) none in
    eqb-false (number_of l it) (number_of l i) parts.0 (ap (number_of l) e)
not_among l (i ∷ is) it none (inr h) = not_among l is it (or_parts (eqb (number_of l it) (number_of l i)) (is_numbered l is (number_of l it)) none).1 h

pub item_stays : (m : MachineState) (c : Effect) (it : items.Item) → ¬ (Among (items_of c) it) → record_of (applied m c) it ≡ record_of m it
item_stays m c (items.page n) none = ap (page_record 2 n) (untouched m c (items.page n) none)
item_stays m c (items.sector d n) none = ap (λ x. sector d n (content_of x)) (untouched m c (items.sector d n) none)

record_stays : (m : MachineState) (l : Layout) (e : LiveEvent) (reply : LiveReply) (c : Effect) (it : items.Item) → touches l e reply c (number_of l it) ≡ false → record_of (went m e reply c) it ≡ record_of m it
record_stays m l (Guest e) (r.Guest reply) c it none = item_stays m c it (not_among l (items_of c) it none)
record_stays m l _ _ c it none = refl

-- The records of the items that were chosen name those, each as it is.
ltb_suc : (i n : ℕ) → i ≢ n → ltb i (suc n) ≡ ltb i n
ltb_suc i n other = elim (either_way (ltb i n)) as (λ _. ltb i (suc n) ≡ ltb i n) [
  | inl e ↦ let low = ltb-true i n e in lt-ltb i (suc n) (omega (arith, low)) ∙ sym e
  | inr e ↦ let high = ltb-false i n e in is_past i (suc n) (omega (arith, high, other)) ∙ sym e
]

named_last : {A : Type 0} (p : ℕ → Bool) (n k : ℕ) (x : A) → p k ≡ true → or_else (cond (eqb n k) (Some x) None) (cond (p n && ltb n k) (Some x) None) ≡ cond (p n && ltb n (suc k)) (Some x) None
named_last p n k x is = elim (either_way (eqb n k)) as (λ _. or_else (cond (eqb n k) (Some x) None) (cond (p n && ltb n k) (Some x) None) ≡ cond (p n && ltb n (suc k)) (Some x) None) [
  | inl e ↦ let same : n ≡ k = eqb-true n k e in rw (e, same, is, lt-ltb k (suc k) (omega arith)) refl
  | inr e ↦ rw (e, ltb_suc n k (eqb-false n k e)) refl
]

named_none : {A : Type 0} (p : ℕ → Bool) (n k : ℕ) (x : A) → p k ≡ false → cond (p n && ltb n k) (Some x) None ≡ cond (p n && ltb n (suc k)) (Some x) None
named_none p n k x is = elim (either_way (eqb n k)) as (λ _. cond (p n && ltb n k) (Some x) None ≡ cond (p n && ltb n (suc k)) (Some x) None) [
  | inl e ↦ let same : n ≡ k = eqb-true n k e in rw (same, is) refl
  | inr e ↦ rw (ltb_suc n k (eqb-false n k e)) refl
]

pub chosen_named : (m : MachineState) (p : ℕ → Bool) (k i : ℕ) → k ≤ size_of (layout_of m) → i < size_of (layout_of m)
    → last_named (item_at (layout_of m) i) (records_of m (chosen p k)) ≡ cond (p i && ltb i k) (Some (record_of m (item_at (layout_of m) i))) None
chosen_named m p zero i le low = named_nothing (item_at (layout_of m) i) ∙ rw (is_past i 0 (omega arith), and-false (p i)) refl
chosen_named m p (suc k) i le low =
    let it = item_at (layout_of m) i in
    elim (either_way (p k)) as (λ _. last_named it (records_of m (chosen p (suc k))) ≡ cond (p i && ltb i (suc k)) (Some (record_of m it)) None) [
      | inl e ↦
          let x = record_of m (item_at (layout_of m) k) in
          let all : records_of m (chosen p (suc k)) ≡ records_of m (chosen p k) ++ x ∷ [] = rw e (map-append _ (chosen p k) (k ∷ [])) in
          let one : last_named it (x ∷ []) ≡ cond (eqb i k) (Some (record_of m it)) None = named_one it x ∙ says_at 2 m i k low (omega (arith, le)) in
          ap (last_named it) all ∙ named-append it (records_of m (chosen p k)) (x ∷ [])
          ∙ rw (one, chosen_named m p k i (omega (arith, le)) low) (named_last p i k (record_of m it) e)
      | inr e ↦
          let all : records_of m (chosen p (suc k)) ≡ records_of m (chosen p k) = rw (e, append-nil) refl in
          ap (last_named it) all ∙ chosen_named m p k i (omega (arith, le)) low ∙ named_none p i k (record_of m it) e
    ]

-- A phase refuses without a word of a disk.
no_disk_named : (p : Phase) (dev n : ℕ) → refusal_for p Stop ≡ Some (errors.DiskFailed dev n) → ⊥
no_disk_named phases.Fresh dev n is = cc
no_disk_named (phases.Open k) dev n is = cc
no_disk_named phases.Stopped dev n is = cc
no_disk_named phases.Failed dev n is = cc

-- What an event sends is named by its records, as it is then.
module _ (m : MachineState) (h : History) (i : ℕ) (low : i < size_of (layout_of m)) (a : AllAllowed m h) where
  abbrev mid : MachineState
  mid = machine_after m h

  abbrev it : items.Item
  it = item_at (layout_of m) i

  layout_here : layout_of (machine_after m h) ≡ layout_of m
  layout_here = same_layout m (machine_after m h) (shape_after m h a)

  abbrev Names : LiveEvent → LiveReply → Type 0
  Names e reply = last_named it (sent mid (is_stale (layout_of m) h) e reply) ≡ cond (sends (layout_of m) (is_stale (layout_of m) h) e reply i) (Some (record_of mid it)) None

  says_here : (k : ℕ) → k < size_of (layout_of m) → last_named it (record_of mid (item_at (layout_of m) k) ∷ []) ≡ cond (eqb i k) (Some (record_of mid it)) None
  says_here k high =
      let P : Layout → Type 0 = λ l. (k < size_of l) → (i < size_of l) → last_named (item_at l i) (record_of mid (item_at l k) ∷ []) ≡ cond (eqb i k) (Some (record_of mid (item_at l i))) None in
      subst P layout_here (λ hi lo. named_one (item_at (layout_of mid) i) (record_of mid (item_at (layout_of mid) k)) ∙ says_at 2 mid i k lo hi) high low

  names_copy : (phase : Phase) (c : Effect) (reply : LiveReply) → AllowedBy (layout_of m) mid (is_stale (layout_of m) h) (is_due (layout_of m) h) phase Copy reply c → Names Copy reply
  names_copy phase c (r.Copied item) d =
      let number : number_of (layout_of m) (item_of item) ≡ d.number = ap (number_of (layout_of m)) d.item_is ∙ number_back (layout_of m) d.number d.least.below in
      ap (λ x. last_named it (record_of mid x ∷ [])) d.item_is ∙ says_here d.number d.least.below ∙ rw number refl
  names_copy phase c r.RoundDone d = named_nothing it
  names_copy phase c (r.Mig x) d = named_nothing it
  names_copy phase c _ d = absurd d

  names_chosen : (p : ℕ → Bool) (n : ℕ) → n ≤ size_of (layout_of m) → last_named it (records_of mid (chosen p n)) ≡ cond (p i && ltb i n) (Some (record_of mid it)) None
  names_chosen p n le =
      let P : Layout → Type 0 = λ l. (n ≤ size_of l) → (i < size_of l) → last_named (item_at l i) (records_of mid (chosen p n)) ≡ cond (p i && ltb i n) (Some (record_of mid (item_at l i))) None in
      subst P layout_here (λ hi lo. chosen_named mid p n i hi lo) le low

  names_stop : (phase : Phase) (c : Effect) (reply : LiveReply) → AllowedBy (layout_of m) mid (is_stale (layout_of m) h) (is_due (layout_of m) h) phase Stop reply c → Names Stop reply
  names_stop phase c (r.Stopped p q) d =
      let stale = is_stale (layout_of m) h in
      ap (λ (l : Layout). last_named it (records_of mid (chosen stale (size_of l)))) layout_here ∙ names_chosen stale (size_of (layout_of m)) (omega arith)
      ∙ rw (lt-ltb i (size_of (layout_of m)) low, and-true (stale i)) refl
  names_stop phase c (r.Mig (errors.DiskFailed dev n)) d =
      let stale = is_stale (layout_of m) h in
      let number : number_of (layout_of m) (items.sector dev n) ≡ d.0.number = ap (number_of (layout_of m)) d.0.item_is ∙ number_back (layout_of m) d.0.number d.0.below in
      ap (λ (l : Layout). last_named it (records_of mid (chosen stale (number_of l (items.sector dev n))))) layout_here
      ∙ names_chosen stale (number_of (layout_of m) (items.sector dev n)) (omega (arith, number, d.0.below))
  names_stop phase c _ d = named_nothing it

  names_round : (reply : LiveReply) → Names EndRound reply
  names_round (r.Begun k) = named_one it (round_end (k - 1))
  names_round _ = named_nothing it

  names_by : (phase : Phase) (c : Effect) (e : LiveEvent) (reply : LiveReply) → AllowedBy (layout_of m) mid (is_stale (layout_of m) h) (is_due (layout_of m) h) phase e reply c → Names e reply
  names_by phase c (Guest e) reply d = named_nothing it
  names_by phase c Begin reply d = named_nothing it
  names_by phase c Copy reply d = names_copy phase c reply d
  names_by phase c EndRound reply d = names_round reply
  names_by phase c Stop reply d = names_stop phase c reply d

  names_mig : (p : Phase) (e : LiveEvent) (x : MigError) → refusal_for p e ≡ Some x → Names e (r.Mig x)
  names_mig p Stop (errors.DiskFailed dev n) is = absurd (no_disk_named p dev n is)
  names_mig p _ _ is = named_nothing it

  pub item_names : (e : LiveEvent) (reply : LiveReply) (c : Effect) → Allowed m h e reply c
      → last_named (item_at (layout_of m) i) (sent (machine_after m h) (is_stale (layout_of m) h) e reply) ≡ cond (sends (layout_of m) (is_stale (layout_of m) h) e reply i) (Some (record_of (machine_after m h) (item_at (layout_of m) i))) None
  item_names e reply c may = elim (told (refusal_for (phase_of h) e) (AllowedBy (layout_of m) (machine_after m h) (is_stale (layout_of m) h) (is_due (layout_of m) h) (phase_of h) e reply c) (λ x. reply ≡ r.Mig x) may) as (λ _. Names e reply)
      [ inl d ↦ names_by (phase_of h) c e reply d.1 | inr d ↦ rw d.2 (names_mig (phase_of h) e d.0 d.1) ]

fresh_step : {A : Type 0} (t stale went_out : Bool) (x y : A) (found : Option A) → (t || (stale && not went_out)) ≡ false → (t ≡ false → y ≡ x) → (stale ≡ false → found ≡ Some x) → or_else (cond went_out (Some x) None) found ≡ Some y
fresh_step true stale went_out x y found none stays before = cc
fresh_step false true true x y found none stays before = ap Some (sym (stays refl))
fresh_step false true false x y found none stays before = cc
fresh_step false false true x y found none stays before = ap Some (sym (stays refl))
fresh_step false false false x y found none stays before = before refl ∙ ap Some (sym (stays refl))

-- The law, for pages and for the sectors of any number of disks.
pub fresh_is_last : FreshIsLast
fresh_is_last m nothing i a low none = cc
fresh_is_last m (then_came h e reply c) i a low none =
    let it = item_at (layout_of m) i in
    let P : ℕ → Type 0 = λ n. touches (layout_of m) e reply c n ≡ false in
    named-append it (entries m h) (sent (machine_after m h) (is_stale (layout_of m) h) e reply)
    ∙ ap (λ x. or_else x (last_named it (entries m h))) (item_names m h i low a.0 e reply c a.1)
    ∙ fresh_step (touches (layout_of m) e reply c i) (is_stale (layout_of m) h i) (sends (layout_of m) (is_stale (layout_of m) h) e reply i)
    (record_of (machine_after m h) it) (record_of (went (machine_after m h) e reply c) it) (last_named it (entries m h)) none
    (λ t. record_stays (machine_after m h) (layout_of m) e reply c it (subst P (sym (number_back (layout_of m) i low)) t))
    (λ s. fresh_is_last m h i a.0 low s)

-- Stale in other words: what is sent is not touched meanwhile.
unsent_touch : (l : Layout) (stale : ℕ → Bool) (e : LiveEvent) (reply : LiveReply) (c : Effect) (i : ℕ) → sends l stale e reply i ≡ true → touches l e reply c i ≡ false
unsent_touch l stale (Guest e) reply c i s = cc
unsent_touch l stale _ reply c i s = refl

parts_of : (t s x : Bool) → (t || (s && not x)) ≡ false → (x ≡ true) ⊎ ((s ≡ false) × (t ≡ false))
parts_of true s x e = cc
parts_of false true true e = inl refl
parts_of false true false e = cc
parts_of false false x e = inr (refl, refl)

fresh_if : (l : Layout) (h : History) (i : ℕ) → is_stale l h i ≡ false → IsFreshItem l h i
fresh_if l nothing i e = cc
fresh_if l (then_came h e reply c) i is = elim (parts_of (touches l e reply c i) (is_stale l h i) (sends l (is_stale l h) e reply i) is) as (λ _. IsFreshItem l (then_came h e reply c) i)
    [ inl a ↦ inl a | inr b ↦ inr (fresh_if l h i b.0, b.1) ]

not_stale : (l : Layout) (h : History) (i : ℕ) → IsFreshItem l h i → is_stale l h i ≡ false
not_stale l nothing i f = absurd f
not_stale l (then_came h e reply c) i (inl s) = rw (unsent_touch l (is_stale l h) e reply c i s, s, and-false (is_stale l h i)) refl
not_stale l (then_came h e reply c) i (inr b) = rw (b.1, not_stale l h i b.0) refl

pub stale_is_not_fresh : StaleIsNotFresh
stale_is_not_fresh l h i = (fresh_if l h i, not_stale l h i)
