-- A call that is out stays so, whichever other call is handed out or answered.
use Rattle.std.proofs.Common.{◌≡◌, ◌≢◌, ℕ, zero, suc, ◌≤◌, ◌∙◌, inl, inr, List, [], ◌∷◌, set, Option, Some, None, slice_get, refl, sym, ap, arith}
use Rattle.std.specs.List.{remove}
use Rattle.std.proofs.lemmas.Bool.{cases_lt}
use Rattle.std.proofs.lemmas.Option.{slice_get_within}
use Rattle.blk.specs.declared.request.Request.{Request}
use Rattle.disk_calls.specs.Calls.{AllCalls, CallsState, IsAt, IsHandedOut, with_out, without, without_at}
use Rattle.disk_calls.specs.declared.calls.Handed.{Handed}
use Rattle.disk_calls.specs.declared.out.Out.{Out}
use Rattle.disk_calls.proofs.Asking.{get_before, get_behind, get_within, is_same}
use Rattle.disk_calls.proofs.Numbers.{get_other, get_set, the_same}

-- One more is out, behind it.
pub stays_handed : (most : ℕ) (asked : List (List Request)) (calls after : AllCalls) (handed : Handed) (dev i : ℕ) (out : Out) → IsHandedOut most calls asked handed after → IsAt calls.devices dev i out → IsAt after.devices dev i out
stays_handed most asked calls after handed dev i out h at =
    let new : CallsState = with_out h.device handed.number handed.call in
    let devices : after.devices ≡ set calls.devices handed.dev new = ap (λ (c : AllCalls). c.devices) h.after in
    elim (is_same dev handed.dev) as (λ _. IsAt after.devices dev i out) [
      | inl here ↦
          let was : slice_get calls.devices dev ≡ Some h.device = ap (slice_get calls.devices) here ∙ h.was in
          let same : at.device ≡ h.device = the_same calls.devices dev at.device h.device at.there was in
          let is : slice_get h.device.outs i ≡ Some out = ap (λ (s : CallsState). slice_get s.outs i) (sym same) ∙ at.is in
          record {
            device = new;
            there = ap (λ (list : List CallsState). slice_get list dev) devices ∙ ap (slice_get (set calls.devices handed.dev new)) here ∙ get_set calls.devices handed.dev h.device new h.was;
            is = get_within h.device.outs (record { number = handed.number; call = handed.call } ∷ []) i (slice_get_within h.device.outs i out is) ∙ is;
          }
      | inr other ↦ record { device = at.device; there = ap (λ (list : List CallsState). slice_get list dev) devices ∙ get_other calls.devices handed.dev new dev other ∙ at.there; is = at.is }
    ]

-- It is at its place, or at an earlier one.
abbrev pub IsStillAt : AllCalls → ℕ → ℕ → Out → Type 0
IsStillAt calls dev i out = (j : ℕ) × (j ≤ i) × IsAt calls.devices dev j out

still_in : (outs : List Out) (k i : ℕ) (out : Out) → slice_get outs i ≡ Some out → i ≢ k → (j : ℕ) × (j ≤ i) × (slice_get (remove outs k) j ≡ Some out)
still_in outs k zero out is other =
    elim (cases_lt zero k) as (λ _. (j : ℕ) × (j ≤ zero) × (slice_get (remove outs k) j ≡ Some out)) [
      | inl below ↦ (zero, omega arith, get_before outs k zero below ∙ is)
      | inr from ↦ absurd (other (omega (arith, from)))
    ]
still_in outs k (suc i) out is other =
    elim (cases_lt (suc i) k) as (λ _. (j : ℕ) × (j ≤ suc i) × (slice_get (remove outs k) j ≡ Some out)) [
      | inl below ↦ (suc i, omega arith, get_before outs k (suc i) below ∙ is)
      | inr from ↦ let past : k ≤ i = omega (arith, from, other) in (i, omega arith, get_behind outs k i past ∙ is)
    ]

removed_by : (found : Option CallsState) (calls : AllCalls) (n k dev i : ℕ) (out : Out) → slice_get calls.devices n ≡ found → IsAt calls.devices dev i out → (dev ≡ n → i ≢ k) → IsStillAt (without_at calls n k found) dev i out
removed_by None calls n k dev i out is at other = (i, omega arith, at)
removed_by (Some s) calls n k dev i out is at other =
    let new : CallsState = record s { outs = remove s.outs k } in
    elim (is_same dev n) as (λ _. IsStillAt (without_at calls n k (Some s)) dev i out) [
      | inl here ↦
          let was : slice_get calls.devices dev ≡ Some s = ap (slice_get calls.devices) here ∙ is in
          let same : at.device ≡ s = the_same calls.devices dev at.device s at.there was in
          let there : slice_get s.outs i ≡ Some out = ap (λ (t : CallsState). slice_get t.outs i) (sym same) ∙ at.is in
          let still = still_in s.outs k i out there (other here) in
          (still.0, still.1, record { device = new; there = ap (slice_get (set calls.devices n new)) here ∙ get_set calls.devices n s new is; is = still.2 })
      | inr away ↦ (i, omega arith, record { device = at.device; there = get_other calls.devices n new dev away ∙ at.there; is = at.is })
    ]

pub stays_removed : (calls : AllCalls) (n k dev i : ℕ) (out : Out) → IsAt calls.devices dev i out → (dev ≡ n → i ≢ k) → IsStillAt (without calls n k) dev i out
stays_removed calls n k dev i out at other = removed_by (slice_get calls.devices n) calls n k dev i out refl at other

-- Two calls at one place are one.
pub one_at : (calls : AllCalls) (dev i n k : ℕ) (out other : Out) → IsAt calls.devices dev i out → IsAt calls.devices n k other → dev ≡ n → i ≡ k → out ≡ other
one_at calls dev i n k out other at there here same =
    let device : at.device ≡ there.device = the_same calls.devices n at.device there.device (ap (slice_get calls.devices) (sym here) ∙ at.there) there.there in
    let is : slice_get there.device.outs k ≡ Some out = ap (slice_get there.device.outs) (sym same) ∙ ap (λ (s : CallsState). slice_get s.outs i) (sym device) ∙ at.is in
    the_same there.device.outs k out other is there.is
