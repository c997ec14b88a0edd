-- The first bytes of two parts.
use Rattle.std.proofs.Common.{◌≡◌, ℕ, zero, suc, ◌-◌, List, [], ◌∷◌, ◌++◌, length, take, min, refl, ap, sym, arith}

-- The first bytes of two parts are the first of the front, and what is left of the number of the back.
pub take_both : (n : ℕ) (front back : List ℕ) → take n (front ++ back) ≡ take (min (length front) n) front ++ take (n - min (length front) n) back
take_both zero [] back = refl
take_both zero (b ∷ front) back =
    let e : min (suc (length front)) 0 ≡ 0 = omega arith in
    rw e refl
take_both (suc n) [] back =
    let e : min 0 (suc n) ≡ 0 = omega arith in
    let f : suc n - 0 ≡ suc n = omega arith in
    rw (e, f) refl
take_both (suc n) (b ∷ front) back =
    let e : min (suc (length front)) (suc n) ≡ suc (min (length front) n) = omega arith in
    let f : suc n - suc (min (length front) n) ≡ n - min (length front) n = omega arith in
    rw (e, f) (ap (λ xs. b ∷ xs) (take_both n front back))

pub given : (front back held : List ℕ) (count first : ℕ) → front ++ back ≡ held → first ≡ min (length front) count → take first front ++ take (count - first) back ≡ take count held
given front back held count first joined is = rw (is, ← joined) (sym (take_both count front back))
