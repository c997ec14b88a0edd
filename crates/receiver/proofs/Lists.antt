-- Lists, beginnings and ends of them.
use Rattle.std.proofs.Common.{◌≡◌, ℕ, zero, suc, ◌+◌, ◌<◌, ◌≤◌, Bool, true, false, List, [], ◌∷◌, length, take, drop, get_or, refl, sym, ap, ◌∙◌, arith}
use Rattle.machine.specs.declared.shape.Shape.{Shape}
use Rattle.wire.proofs.Unique.{cons_same}

pub empty : {A : Type 0} (xs : List A) → length xs ≡ 0 → xs ≡ []
empty [] e = refl
empty (x ∷ xs) e = absurd (omega (arith, e))

-- The shape at a place, at the front of the later ones.
pub later_shapes : (shapes : List Shape) (n : ℕ) (shape : Shape) → n < length shapes → shape ≡ get_or shapes n shape → drop n shapes ≡ shape ∷ drop (n + 1) shapes
later_shapes [] n shape below is = absurd (omega (arith, below))
later_shapes (s ∷ shapes) zero shape below is = cons_same (sym is) refl
later_shapes (s ∷ shapes) (suc n) shape below is =
    let m : suc n + 1 ≡ suc (n + 1) = omega arith in
    rw m (later_shapes shapes n shape (omega (arith, below)) is)

take_nothing : {A : Type 0} (n : ℕ) → take {A = A} n [] ≡ []
take_nothing zero = refl
take_nothing (suc n) = refl

pub take_all : {A : Type 0} (n : ℕ) (xs : List A) → length xs ≤ n → take n xs ≡ xs
take_all n [] all = take_nothing n
take_all zero (x ∷ xs) all = absurd (omega (arith, all))
take_all (suc n) (x ∷ xs) all = ap (λ ys. x ∷ ys) (take_all n xs (omega (arith, all)))

-- What is decided is not decided both ways.
pub not_both_ways : (b : Bool) → b ≡ true → b ≡ false → ⊥
not_both_ways b e f = let no : true ≡ false = sym e ∙ f in cc
