-- The oldest call that is out, from a number on.
use Rattle.std.proofs.Common.{◌≡◌, ℕ, ◌+◌, ◌-◌, ◌^◌, ◌<◌, ◌≤◌, ◌∙◌, ◌⊎◌, inl, inr, List, [], ◌∷◌, ◌++◌, length, get_or, Option, Some, None, slice_get, refl, sym, ap, arith}
use Rattle.std.specs.Prelude.{All, IfSome}
use Rattle.std.proofs.lemmas.Bool.{cases_lt, lt-ltb, le-ltb}
use Rattle.std.proofs.lemmas.Option.{get_or_from_slice_get, slice_get_within}
use Rattle.disk_calls.specs.Calls.{AllCalls, AreNumbered, CallsState, IsAt}
use Rattle.disk_calls.specs.Oldest.{AreOldestFrom, IsNoneFrom, IsOldestFrom, IsOldestOf, after_last, listed_of, older_listed}
use Rattle.disk_calls.specs.declared.oldest.Listed.{Listed}
use Rattle.disk_calls.specs.declared.out.Out.{Out}
use Rattle.disk_calls.proofs.Numbers.{the_same}

-- Of one device.

-- What was found among the first calls of a device.
abbrev pub OldestIn : List Out → ℕ → ℕ → Option Out → Type 0
OldestIn outs number n None = (i : ℕ) (out : Out) → i < n → slice_get outs i ≡ Some out → out.number < number
OldestIn outs number n (Some oldest) =
    ((i : ℕ) × (slice_get outs i ≡ Some oldest)) × (number ≤ oldest.number) × ((i : ℕ) (out : Out) → i < n → slice_get outs i ≡ Some out → number ≤ out.number → oldest.number ≤ out.number)

-- Of all devices.

-- What was found among the calls of the first devices.
abbrev pub OldestBefore : List CallsState → ℕ → ℕ → Option Listed → Type 0
OldestBefore devices number n None = (dev i : ℕ) (out : Out) → dev < n → IsAt devices dev i out → out.number < number
OldestBefore devices number n (Some listed) =
    ((i : ℕ) × IsAt devices listed.dev i listed.out) × (number ≤ listed.out.number) × ((dev i : ℕ) (out : Out) → dev < n → IsAt devices dev i out → number ≤ out.number → listed.out.number ≤ out.number)

pub none_before_yet : (devices : List CallsState) (number : ℕ) → OldestBefore devices number 0 None
none_before_yet devices number dev i out below at = absurd (omega (arith, below))

-- A call of one more device is one of those before, or one of that.
at_this : (devices : List CallsState) (n : ℕ) (s : CallsState) (dev i : ℕ) (out : Out) → slice_get devices n ≡ Some s → dev < n + 1 → IsAt devices dev i out → (dev < n) ⊎ (slice_get s.outs i ≡ Some out)
at_this devices n s dev i out is below at =
    elim (cases_lt dev n) as (λ _. (dev < n) ⊎ (slice_get s.outs i ≡ Some out)) [
      | inl before ↦ inl before
      | inr from ↦
          let here : dev ≡ n = omega (arith, below, from) in
          let device : at.device ≡ s = the_same devices n at.device s (ap (slice_get devices) (sym here) ∙ at.there) is in
          inr (ap (λ (t : CallsState). slice_get t.outs i) (sym device) ∙ at.is)
    ]

early : (outs : List Out) (number i : ℕ) (out : Out) → All (λ (o : Out). o.number < number) outs → slice_get outs i ≡ Some out → out.number < number
early outs number i out all there =
    let same : (get_or outs i out).number ≡ out.number = ap (λ (o : Out). o.number) (get_or_from_slice_get outs i out out there) in
    omega (arith, same, all i out (slice_get_within outs i out there))

module _ (devices : List CallsState) (number n : ℕ) (s : CallsState) (is : slice_get devices n ≡ Some s) where
  -- No call of the next device counts.
  kept_before : (oldest : Option Listed) → All (λ (o : Out). o.number < number) s.outs → OldestBefore devices number n oldest → OldestBefore devices number (n + 1) oldest
  kept_before None none h = λ dev i out below at. elim (at_this devices n s dev i out is below at) as (λ _. out.number < number) [
    | inl before ↦ h dev i out before at
    | inr here ↦ early s.outs number i out none here
  ]
  kept_before (Some listed) none h = (
    h.0,
    h.1,
    λ dev i out below at from. elim (at_this devices n s dev i out is below at) as (λ _. listed.out.number ≤ out.number) [
      | inl before ↦ h.2 dev i out before at from
      | inr here ↦ absurd (omega (arith, early s.outs number i out none here, from))
    ],
  )

  listed_before : (oldest : Option Listed) (found : Out) → IsOldestOf s.outs number found → OldestBefore devices number n oldest → OldestBefore devices number (n + 1) (listed_of n found oldest)
  listed_before None found own h = (
    (own.there.0, record { device = s; there = is; is = own.there.1 }),
    own.from,
    λ dev i out below at from. elim (at_this devices n s dev i out is below at) as (λ _. found.number ≤ out.number) [
      | inl before ↦ absurd (omega (arith, h dev i out before at, from))
      | inr here ↦ own.least i out here from
    ],
  )
  listed_before (Some kept) found own h = elim (cases_lt found.number kept.out.number) as (λ _. OldestBefore devices number (n + 1) (listed_of n found (Some kept))) [
    | inl less ↦ rw (lt-ltb found.number kept.out.number less) (
      (own.there.0, record { device = s; there = is; is = own.there.1 }),
      own.from,
      λ dev i out below at from. elim (at_this devices n s dev i out is below at) as (λ _. found.number ≤ out.number) [
        | inl before ↦ omega (arith, h.2 dev i out before at from, less)
        | inr here ↦ own.least i out here from
      ],
    )
    | inr more ↦ rw (le-ltb found.number kept.out.number more) (
      h.0,
      h.1,
      λ dev i out below at from. elim (at_this devices n s dev i out is below at) as (λ _. kept.out.number ≤ out.number) [
        | inl before ↦ h.2 dev i out before at from
        | inr here ↦ omega (arith, own.least i out here from, more)
      ],
    )
  ]

  pub more_before : (oldest : Option Listed) (found : Option Out) → IfSome found (λ (o : Out). IsOldestOf s.outs number o) → (found ≡ None → All (λ (o : Out). o.number < number) s.outs) → OldestBefore devices number n oldest
      → OldestBefore devices number (n + 1) (older_listed oldest n found)
  more_before oldest None some none h = kept_before oldest (none refl) h
  more_before oldest (Some found) some none h = listed_before oldest found some h

pub some_before : (calls : AllCalls) (number n : ℕ) (oldest : Option Listed) → length calls.devices ≤ n → OldestBefore calls.devices number n oldest → IfSome oldest (λ (l : Listed). IsOldestFrom calls number l)
some_before calls number n None past h = tt
some_before calls number n (Some listed) past h = record {
  there = h.0;
  from = h.1;
  least = λ dev i out at from. h.2 dev i out (omega (arith, past, slice_get_within calls.devices dev at.device at.there)) at from;
}

pub none_before : (calls : AllCalls) (number n : ℕ) (oldest : Option Listed) → length calls.devices ≤ n → OldestBefore calls.devices number n oldest → oldest ≡ None → IsNoneFrom calls number
none_before calls number n None past h is = λ dev i out at. h dev i out (omega (arith, past, slice_get_within calls.devices dev at.device at.there)) at
none_before calls number n (Some listed) past h is = cc

pub there_before : (devices : List CallsState) (number n : ℕ) (oldest : Option Listed) → OldestBefore devices number n oldest → IfSome oldest (λ (l : Listed). l.dev < length devices)
there_before devices number n None h = tt
there_before devices number n (Some listed) h = slice_get_within devices listed.dev h.0.1.device h.0.1.there

pub below_before : (calls : AllCalls) (number n : ℕ) (oldest : Option Listed) → AreNumbered calls → calls.number < 2 ^ 64 → OldestBefore calls.devices number n oldest → IfSome oldest (λ (l : Listed). l.out.number < 2 ^ 64 - 1)
below_before calls number n None numbered few h = tt
below_before calls number n (Some listed) numbered few h = omega (arith, numbered.below listed.dev h.0.0 listed.out h.0.1, few)

-- Lists of them.

-- One more at the end.
pub oldest_pushed : (calls : AllCalls) (number : ℕ) (ls : List Listed) (l : Listed) → AreOldestFrom calls number ls → IsOldestFrom calls (after_last number ls) l → AreOldestFrom calls number (ls ++ l ∷ [])
oldest_pushed calls number [] l are is = (is, tt)
oldest_pushed calls number (x ∷ ls) l are is = (are.0, oldest_pushed calls (x.out.number + 1) ls l are.1 is)

pub after_pushed : (number : ℕ) (ls : List Listed) (l : Listed) → after_last number (ls ++ l ∷ []) ≡ l.out.number + 1
after_pushed number [] l = refl
after_pushed number (x ∷ ls) l = after_pushed (x.out.number + 1) ls l
