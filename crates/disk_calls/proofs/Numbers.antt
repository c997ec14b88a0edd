-- The numbers of the calls that are out, and the turn over the devices.
use Rattle.std.proofs.Common.{◌≡◌, ◌≢◌, ℕ, zero, suc, ◌+◌, ◌-◌, ◌<◌, ◌≤◌, ◌∙◌, ◌⊎◌, inl, inr, List, [], ◌∷◌, ◌++◌, length, set, replicate, get_or, false, Option, Some, None, slice_get, refl, sym, ap, subst, arith}
use Rattle.std.specs.List.{All, remove}
use Rattle.std.proofs.lemmas.Bool.{cases_lt, lt-ltb, le-ltb, ltb-false}
use Rattle.std.proofs.lemmas.Option.{get_or_from_slice_get, slice_get_within}
use Rattle.blk.specs.declared.outside.DiskCall.{DiskCall}
use Rattle.blk.specs.declared.request.Request.{Request}
use Rattle.disk_calls.specs.Calls.{AllCalls, AreNumbered, CallsState, IsAt, call_of, call_of_device, has_out, in_turn, with_out, without_at}
use Rattle.disk_calls.specs.Handing.{call_at}
use Rattle.disk_calls.specs.Numbers.{AreFrom, HandedAreFrom, NoneIsBelow, NoneOutAreFrom, RemovedAreFrom}
use Rattle.disk_calls.specs.declared.out.Out.{Out}
use Rattle.disk_calls.proofs.Asking.{came_from, get_last, is_same, none_of}

pub get_other : {A : Type 0} (xs : List A) (k : ℕ) (y : A) (j : ℕ) → j ≢ k → slice_get (set xs k y) j ≡ slice_get xs j
get_other [] k y j other = refl
get_other (x ∷ xs) zero y zero other = absurd (other refl)
get_other (x ∷ xs) zero y (suc j) other = refl
get_other (x ∷ xs) (suc k) y zero other = refl
get_other (x ∷ xs) (suc k) y (suc j) other = get_other xs k y j (λ e. other (ap suc e))

pub get_set : {A : Type 0} (xs : List A) (k : ℕ) (x y : A) → slice_get xs k ≡ Some x → slice_get (set xs k y) k ≡ Some y
get_set [] k x y h = cc
get_set (x ∷ xs) zero z y h = refl
get_set (x ∷ xs) (suc k) z y h = get_set xs k z y h

pub the_same : {A : Type 0} (o : List A) (k : ℕ) (x y : A) → slice_get o k ≡ Some x → slice_get o k ≡ Some y → x ≡ y
the_same o k x y a b = cc

-- A call that is out after one more was handed out was out before, or it is that one.
at_after : (devices : List CallsState) (dev : ℕ) (s : CallsState) (number : ℕ) (call : DiskCall) (d i : ℕ) (a : Out) → slice_get devices dev ≡ Some s → IsAt (set devices dev (with_out s number call)) d i a
    → IsAt devices d i a ⊎ ((d ≡ dev) × (i ≡ length s.outs) × (a ≡ record { number = number; call = call }))
at_after devices dev s number call d i a was at =
    elim (is_same d dev) as (λ _. IsAt devices d i a ⊎ ((d ≡ dev) × (i ≡ length s.outs) × (a ≡ record { number = number; call = call }))) [
      | inl here ↦
          let now : slice_get (set devices dev (with_out s number call)) d ≡ Some (with_out s number call) = ap (slice_get (set devices dev (with_out s number call))) here ∙ get_set devices dev s (with_out s number call) was in
          let device : at.device ≡ with_out s number call = the_same (set devices dev (with_out s number call)) d at.device (with_out s number call) at.there now in
          let is : slice_get (s.outs ++ record { number = number; call = call } ∷ []) i ≡ Some a = ap (λ (t : CallsState). slice_get t.outs i) (sym device) ∙ at.is in
          elim (get_last s.outs (record { number = number; call = call }) i a is) as (λ _. IsAt devices d i a ⊎ ((d ≡ dev) × (i ≡ length s.outs) × (a ≡ record { number = number; call = call }))) [
            | inl old ↦ inl (record { device = s; there = ap (slice_get devices) here ∙ was; is = old })
            | inr new ↦ inr (here, new.0, new.1)
          ]
      | inr other ↦ inl (record { device = at.device; there = sym (get_other devices dev (with_out s number call) d other) ∙ at.there; is = at.is })
    ]

-- The next number is one that no call has.
pub numbered_pushed : (calls : AllCalls) (dev : ℕ) (s : CallsState) (call : DiskCall) (turn : ℕ) → slice_get calls.devices dev ≡ Some s → AreNumbered calls
    → AreNumbered (record { devices = set calls.devices dev (with_out s calls.number call); turn = turn; number = calls.number + 1 })
numbered_pushed calls dev s call turn was h = record {
  below = λ d i a at. elim (at_after calls.devices dev s calls.number call d i a was at) as (λ _. a.number < calls.number + 1) [
    | inl old ↦ omega (arith, h.below d i a old)
    | inr new ↦ let is : a.number ≡ calls.number = ap (λ (o : Out). o.number) new.2 in omega (arith, is)
  ];
  one = λ d i e j a b at_a at_b same. elim (at_after calls.devices dev s calls.number call d i a was at_a) as (λ _. (d ≡ e) × (i ≡ j)) [
    | inl old_a ↦ elim (at_after calls.devices dev s calls.number call e j b was at_b) as (λ _. (d ≡ e) × (i ≡ j)) [
      | inl old_b ↦ h.one d i e j a b old_a old_b same
      | inr new_b ↦ let is : b.number ≡ calls.number = ap (λ (o : Out). o.number) new_b.2 in absurd (omega (arith, h.below d i a old_a, same, is))
    ]
    | inr new_a ↦ elim (at_after calls.devices dev s calls.number call e j b was at_b) as (λ _. (d ≡ e) × (i ≡ j)) [
      | inl old_b ↦ let is : a.number ≡ calls.number = ap (λ (o : Out). o.number) new_a.2 in absurd (omega (arith, h.below e j b old_b, same, is))
      | inr new_b ↦ (new_a.0 ∙ sym new_b.0, new_a.1 ∙ sym new_b.1)
    ]
  ];
}

-- Where a call was before one was removed.
record WasAt (devices : List CallsState) (dev k d i : ℕ) (a : Out) : Type 0 where
  n : ℕ
  at : IsAt devices d n a
  place : ((d ≢ dev) × (n ≡ i)) ⊎ ((d ≡ dev) × (((i < k) × (n ≡ i)) ⊎ ((k ≤ i) × (n ≡ suc i))))

was_at : (devices : List CallsState) (dev : ℕ) (s : CallsState) (k d i : ℕ) (a : Out) → slice_get devices dev ≡ Some s → IsAt (set devices dev (record s { outs = remove s.outs k })) d i a → WasAt devices dev k d i a
was_at devices dev s k d i a was at =
    elim (is_same d dev) as (λ _. WasAt devices dev k d i a) [
      | inl here ↦
          let new : CallsState = record s { outs = remove s.outs k } in
          let now : slice_get (set devices dev new) d ≡ Some new = ap (slice_get (set devices dev new)) here ∙ get_set devices dev s new was in
          let device : at.device ≡ new = the_same (set devices dev new) d at.device new at.there now in
          let is : slice_get (remove s.outs k) i ≡ Some a = ap (λ (t : CallsState). slice_get t.outs i) (sym device) ∙ at.is in
          let from = came_from s.outs k i a is in
          record { n = from.n; at = record { device = s; there = ap (slice_get devices) here ∙ was; is = from.is }; place = inr (here, from.place) }
      | inr other ↦ record { n = i; at = record { device = at.device; there = sym (get_other devices dev (record s { outs = remove s.outs k }) d other) ∙ at.there; is = at.is }; place = inl (other, refl) }
    ]

same_place : (k i j m n : ℕ) → ((i < k) × (m ≡ i)) ⊎ ((k ≤ i) × (m ≡ suc i)) → ((j < k) × (n ≡ j)) ⊎ ((k ≤ j) × (n ≡ suc j)) → m ≡ n → i ≡ j
same_place k i j m n (inl p) (inl q) e = omega (arith, p.0, p.1, q.0, q.1, e)
same_place k i j m n (inl p) (inr q) e = absurd (omega (arith, p.0, p.1, q.0, q.1, e))
same_place k i j m n (inr p) (inl q) e = absurd (omega (arith, p.0, p.1, q.0, q.1, e))
same_place k i j m n (inr p) (inr q) e = omega (arith, p.0, p.1, q.0, q.1, e)

still_one : (dev k d i e j m n : ℕ) → ((d ≢ dev) × (m ≡ i)) ⊎ ((d ≡ dev) × (((i < k) × (m ≡ i)) ⊎ ((k ≤ i) × (m ≡ suc i)))) → ((e ≢ dev) × (n ≡ j)) ⊎ ((e ≡ dev) × (((j < k) × (n ≡ j)) ⊎ ((k ≤ j) × (n ≡ suc j)))) → d ≡ e → m ≡ n → i ≡ j
still_one dev k d i e j m n (inl p) (inl q) same place = sym p.1 ∙ place ∙ q.1
still_one dev k d i e j m n (inl p) (inr q) same place = absurd (p.0 (same ∙ q.0))
still_one dev k d i e j m n (inr p) (inl q) same place = absurd (q.0 (sym same ∙ p.0))
still_one dev k d i e j m n (inr p) (inr q) same place = same_place k i j m n p.1 q.1 place

pub numbered_removed : (calls : AllCalls) (dev : ℕ) (s : CallsState) (k : ℕ) → slice_get calls.devices dev ≡ Some s → AreNumbered calls → AreNumbered (record calls { devices = set calls.devices dev (record s { outs = remove s.outs k }) })
numbered_removed calls dev s k was h = record {
  below = λ d i a at. let old = was_at calls.devices dev s k d i a was at in h.below d old.n a old.at;
  one = λ d i e j a b at_a at_b same.
      let old_a = was_at calls.devices dev s k d i a was at_a in
      let old_b = was_at calls.devices dev s k e j b was at_b in
      let one = h.one d old_a.n e old_b.n a b old_a.at old_b.at same in
      (one.0, still_one dev k d i e j old_a.n old_b.n old_a.place old_b.place one.0 one.1);
}

-- Each device is somewhere in turn.
pub turn_covers : (turn n dev : ℕ) → turn ≤ n → dev < n → (i : ℕ) × (i < n) × (in_turn turn n i ≡ dev)
turn_covers turn n dev within below =
    elim (cases_lt dev turn) as (λ _. (i : ℕ) × (i < n) × (in_turn turn n i ≡ dev)) [
      | inl before ↦ (dev + n - turn, omega (arith, within, below, before), rw (le-ltb (turn + (dev + n - turn)) n (omega (arith, within, below, before))) (omega (arith, within, below, before)))
      | inr from ↦ (dev - turn, omega (arith, below), rw (lt-ltb (turn + (dev - turn)) n (omega (arith, below, from))) (omega (arith, from)))
    ]

pub none_at_all : (most : ℕ) (calls : AllCalls) (asked : List (List Request)) → calls.turn ≤ length calls.devices → ((i j : ℕ) → i < length calls.devices → call_of_device most calls asked (in_turn calls.turn (length calls.devices) i) j ≡ None)
    → (dev j : ℕ) → dev < length calls.devices → call_of_device most calls asked dev j ≡ None
none_at_all most calls asked within none dev j below =
    let at = turn_covers calls.turn (length calls.devices) dev within below in
    ap (λ (d : ℕ). call_of_device most calls asked d j) (sym at.2) ∙ none at.0 j at.1

there_by : (most : ℕ) (o : Option CallsState) (requests : List Request) (k : ℕ) (call : DiskCall) → call_of most o requests k ≡ Some call → (s : CallsState) × (o ≡ Some s) × (call_at s.size most s.outs requests k ≡ Some call)
there_by most None requests k call h = cc
there_by most (Some s) requests k call h = (s, refl, h)

-- A call that may be handed out is one of a device.
pub there_by_call : (most : ℕ) (calls : AllCalls) (asked : List (List Request)) (dev k : ℕ) (call : DiskCall) → call_of_device most calls asked dev k ≡ Some call
    → (s : CallsState) × (slice_get calls.devices dev ≡ Some s) × (call_at s.size most s.outs (get_or asked dev []) k ≡ Some call)
there_by_call most calls asked dev k call h = there_by most (slice_get calls.devices dev) (get_or asked dev []) k call h

get_replicate : {A : Type 0} (n : ℕ) (x : A) (k : ℕ) (y : A) → slice_get (replicate n x) k ≡ Some y → y ≡ x
get_replicate zero x k y h = cc
get_replicate (suc n) x zero y h = cc
get_replicate (suc n) x (suc k) y h = get_replicate n x k y h

no_call : (i : ℕ) (out : Out) → slice_get [] i ≡ Some out → ⊥
no_call i out h = cc

none_yet : (n size dev i : ℕ) (out : Out) → IsAt (replicate n (record { size = size; outs = [] })) dev i out → ⊥
none_yet n size dev i out at = no_call i out (ap (λ (s : CallsState). slice_get s.outs i) (sym (get_replicate n (record { size = size; outs = [] }) dev at.device at.there)) ∙ at.is)

pub numbered_new : (n size number : ℕ) → AreNumbered (record { devices = replicate n (record { size = size; outs = [] }); turn = 0; number = number })
numbered_new n size number = record { below = λ dev i out at. absurd (none_yet n size dev i out at); one = λ dev i other j a b at_a at_b same. absurd (none_yet n size dev i a at_a) }

-- No call of one more device has this number.
pub none_more : (devices : List CallsState) (k : ℕ) (s : CallsState) (number : ℕ) → slice_get devices k ≡ Some s → All (λ (out : Out). out.number ≢ number) s.outs → ((dev i : ℕ) (out : Out) → dev < k → IsAt devices dev i out → out.number ≢ number)
    → (dev i : ℕ) (out : Out) → dev < k + 1 → IsAt devices dev i out → out.number ≢ number
none_more devices k s number is none before dev i out below at =
    elim (is_same dev k) as (λ _. out.number ≢ number) [
      | inl here ↦
          let device : at.device ≡ s = the_same devices k at.device s (ap (slice_get devices) (sym here) ∙ at.there) is in
          let there : slice_get s.outs i ≡ Some out = ap (λ (t : CallsState). slice_get t.outs i) (sym device) ∙ at.is in
          λ e. none i out (slice_get_within s.outs i out there) (ap (λ (o : Out). o.number) (get_or_from_slice_get s.outs i out out there) ∙ e)
      | inr other ↦ before dev i out (omega (arith, below, other)) at
    ]

pub none_past : (devices : List CallsState) (k number : ℕ) → length devices ≤ k → ((dev i : ℕ) (out : Out) → dev < k → IsAt devices dev i out → out.number ≢ number) → (dev i : ℕ) (out : Out) → IsAt devices dev i out → out.number ≢ number
none_past devices k number past before dev i out at = before dev i out (omega (arith, past, slice_get_within devices dev at.device at.there)) at

-- Numbers from a first one on.

pub none_out_are_from : NoneOutAreFrom
none_out_are_from from calls none next = record {
  next = next;
  outs = λ dev i out at.
      let silent : has_out at.device ≡ false = none_of has_out calls.devices dev at.device none at.there in
      absurd (omega (arith, ltb-false 0 (length at.device.outs) silent, slice_get_within at.device.outs i out at.is));
}

pub handed_are_from : HandedAreFrom
handed_are_from from most asked old new handed h out =
    let device = with_out out.device handed.number handed.call in
    let next : new.number ≡ old.number + 1 = ap (λ (c : AllCalls). c.number) out.after in (
      record {
        next = omega (arith, h.next, next);
        outs = λ dev i a at.
            let now : IsAt (set old.devices handed.dev device) dev i a = subst (λ (c : AllCalls). IsAt c.devices dev i a) out.after at in
            elim (at_after old.devices handed.dev out.device handed.number handed.call dev i a out.was now) as (λ _. from ≤ a.number) [
              | inl before ↦ h.outs dev i a before
              | inr last ↦ let is : a.number ≡ handed.number = ap (λ (o : Out). o.number) last.2 in omega (arith, is, out.number, h.next)
            ];
      },
      omega (arith, out.number, h.next),
    )

removed_by : (from dev i : ℕ) (calls : AllCalls) (o : Option CallsState) → slice_get calls.devices dev ≡ o → AreFrom from calls → AreFrom from (without_at calls dev i o)
removed_by from dev i calls None is h = h
removed_by from dev i calls (Some s) is h = record {
  next = h.next;
  outs = λ d k out at. let old = was_at calls.devices dev s i d k out is at in h.outs d old.n out old.at;
}

pub removed_are_from : RemovedAreFrom
removed_are_from from dev i calls h = removed_by from dev i calls (slice_get calls.devices dev) refl h

pub none_is_below : NoneIsBelow
none_is_below from number dev i calls out h below at same = omega (arith, h.outs dev i out at, below, same)
