-- The record of a page, with its bytes or as a page of zeros.
use Rattle.std.proofs.Common.{◌≡◌, ℕ, Bool, true, false, ◌&&◌, ◌==◌, inl, inr, List, [], ◌∷◌, length, refl, sym, ◌∙◌, arith}
use Rattle.std.specs.Prelude.{IsTrue, not}
use Rattle.std.proofs.lemmas.Bool.{eqb-false, eqb-true}
use Rattle.guestmem.specs.Zeros.{are_zeros}
use Rattle.machine.proofs.Numbering.{either_way}
use Rattle.wire.specs.Records.{page, zero_page, is_zero_page, page_record, IsOf}

both_true : (a b : Bool) → (a && b) ≡ true → (a ≡ true) × (b ≡ true)
both_true true b e = (refl, e)
both_true false b e = cc

cons_alike : {a b : ℕ} {x y : List ℕ} → a ≡ b → x ≡ y → a ∷ x ≡ b ∷ y
cons_alike e f = rw (e, f) refl

-- Zeros of one length are the same.
pub zeros_same : (a b : List ℕ) → are_zeros a ≡ true → are_zeros b ≡ true → length a ≡ length b → a ≡ b
unfolding are_zeros
zeros_same [] [] ea eb len = refl
zeros_same [] (y ∷ b) ea eb len = absurd (omega (arith, len))
zeros_same (x ∷ a) [] ea eb len = absurd (omega (arith, len))
zeros_same (x ∷ a) (y ∷ b) ea eb len =
    let p = both_true (x == 0) (are_zeros a) ea in
    let q = both_true (y == 0) (are_zeros b) eb in
    cons_alike (eqb-true x 0 p.0 ∙ sym (eqb-true y 0 q.0)) (zeros_same a b p.1 q.1 (omega (arith, len)))

pub as_page : (version n : ℕ) (bytes : List ℕ) → is_zero_page version bytes ≡ false → page_record version n bytes ≡ page n bytes
as_page version n bytes e = rw e refl

pub as_zeros : (version n : ℕ) (bytes : List ℕ) → is_zero_page version bytes ≡ true → page_record version n bytes ≡ zero_page n
as_zeros version n bytes e = rw e refl

not_both : (n k : ℕ) (b : List ℕ) → zero_page n ≡ page k b → ⊥
not_both n k b e = absurd cc

bytes_alike : (n k : ℕ) (a b : List ℕ) → page n a ≡ page k b → a ≡ b
bytes_alike n k a b e = cc

-- The record of a page determines its bytes.
pub one_page : (version n k : ℕ) (a b : List ℕ) → length a ≡ length b → page_record version n a ≡ page_record version k b → a ≡ b
one_page version n k a b len e = elim (either_way (is_zero_page version a)) as (λ _. a ≡ b) [
  | inl za ↦ elim (either_way (is_zero_page version b)) as (λ _. a ≡ b) [
    | inl zb ↦ zeros_same a b (both_true (not (version == 1)) (are_zeros a) za).1 (both_true (not (version == 1)) (are_zeros b) zb).1 len
    | inr fb ↦ absurd (not_both n k b (sym (as_zeros version n a za) ∙ e ∙ as_page version k b fb))
  ]
  | inr fa ↦ elim (either_way (is_zero_page version b)) as (λ _. a ≡ b) [
    | inl zb ↦ absurd (not_both k n a (sym (as_zeros version k b zb) ∙ sym e ∙ as_page version n a fa))
    | inr fb ↦ bytes_alike n k a b (sym (as_page version n a fa) ∙ e ∙ as_page version k b fb)
  ]
]

not_so : (b : Bool) → not b ≡ true → b ≡ false
not_so true e = absurd cc
not_so false e = refl

-- The version has the record of a page.
pub has_page_record : (version n : ℕ) (bytes : List ℕ) → IsOf version (page_record version n bytes)
has_page_record version n bytes = elim (either_way (is_zero_page version bytes)) as (λ _. IsOf version (page_record version n bytes)) [
  | inl z ↦ rw (as_zeros version n bytes z) (eqb-false version 1 (not_so (version == 1) (both_true (not (version == 1)) (are_zeros bytes) z).0))
  | inr f ↦ rw (as_page version n bytes f) f
]

-- What a page with these bytes is since version 2.
pub page_is_of : (version n : ℕ) (b : List ℕ) (zeros : Bool) → (version == 1) ≡ false → zeros ≡ are_zeros b → (IsTrue (not zeros) → IsOf version (page n b)) × (IsOf version (page n b) → IsTrue (not zeros))
page_is_of version n b zeros later is = rw (later, is) (by_zeros (are_zeros b))
  where
    by_zeros : (z : Bool) → (IsTrue (not z) → z ≡ false) × (z ≡ false → IsTrue (not z))
    by_zeros true = (λ e. cc, λ e. cc)
    by_zeros false = (λ e. refl, λ e. refl)
