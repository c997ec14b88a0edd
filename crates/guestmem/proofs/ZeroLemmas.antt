-- Zeros, vector by vector.
use Rattle.std.proofs.Common.{◌≡◌, ℕ, ◌+◌, ◌*◌, ◌%◌, Bool, true, false, cond, not, ◌&&◌, ◌==◌, eqb, List, [], ◌∷◌, ◌++◌, length, take, drop, map, replicate, refl, sym, ap, ◌∙◌, arith}
use Rattle.std.proofs.lemmas.Bool.{eqb-true, eqb-false, ne_eqb}
use Rattle.std.proofs.lemmas.List.{take-append-drop}
use Rattle.std.proofs.lemmas.Simd.{bitmask_splat}
use Rattle.std.proofs.Math.Seq.{take-add}
use Rattle.guestmem.specs.Zeros.{are_zeros}
use lib.Lanes.{mask_l, top, zip2}
use mir.Syntax.{w8}

and_together : (a b c : Bool) → (a && (b && c)) ≡ ((a && b) && c)
and_together true b c = refl
and_together false b c = refl

and_false : (b : Bool) → (b && false) ≡ false
and_false true = refl
and_false false = refl

pub zeros-append : (xs ys : List ℕ) → are_zeros (xs ++ ys) ≡ (are_zeros xs && are_zeros ys)
unfolding are_zeros
zeros-append [] ys = refl
zeros-append (x ∷ xs) ys = ap (λ (b : Bool). (x == 0) && b) (zeros-append xs ys) ∙ and_together (x == 0) (are_zeros xs) (are_zeros ys)

-- The mask of the bytes that are not 0 is 0 where all are.
mask_first : (b : Bool) (m : ℕ) (all : Bool) → eqb m 0 ≡ all → eqb (cond (not b) 1 0 + 2 * m) 0 ≡ (b && all)
mask_first false m all e = ne_eqb (1 + 2 * m) 0 (λ (z : 1 + 2 * m ≡ 0). omega (arith, z))
mask_first true m true e = let none : m ≡ 0 = eqb-true m 0 e in rw none refl
mask_first true m false e = let some = eqb-false m 0 e in ne_eqb (0 + 2 * m) 0 (λ (z : 0 + 2 * m ≡ 0). some (omega (arith, z)))

mask_zeros : (xs : List ℕ) → eqb (mask_l (map (λ (x : ℕ). not (eqb x 0)) xs)) 0 ≡ are_zeros xs
unfolding are_zeros
mask_zeros [] = refl
mask_zeros (x ∷ xs) = mask_first (eqb x 0) (mask_l (map (λ (x : ℕ). not (eqb x 0)) xs)) (are_zeros xs) (mask_zeros xs)

pub block_zeros : (xs : List ℕ) → length xs ≡ 64 → eqb (mask_l (map (top 7) (zip2 (λ (a b : ℕ). cond (not (eqb a b)) 255 0) xs (replicate 64 0))) % 18446744073709551616) 0 ≡ are_zeros xs
block_zeros xs long = ap (λ (n : ℕ). eqb n 0) (bitmask_splat w8 (λ (a b : ℕ). not (eqb a b)) xs 64 0 long (omega arith)) ∙ mask_zeros xs

-- The next block of a list.
pub zeros_more : (xs : List ℕ) (n : ℕ) → are_zeros (take (64 * n) xs) ≡ true → are_zeros (take 64 (drop (n * 64) xs)) ≡ true → are_zeros (take (64 * (n + 1)) xs) ≡ true
zeros_more xs n before here =
    let e : 64 * (n + 1) ≡ 64 * n + 64 = omega arith in
    let f : n * 64 ≡ 64 * n = omega arith in
    let there : are_zeros (take 64 (drop (64 * n) xs)) ≡ true = rw f at here in
    rw e (ap are_zeros (take-add (64 * n) 64 xs) ∙ zeros-append (take (64 * n) xs) (take 64 (drop (64 * n) xs)) ∙ ap (λ (b : Bool). b && are_zeros (take 64 (drop (64 * n) xs))) before ∙ there)

pub zeros_fail : (xs : List ℕ) (n : ℕ) → are_zeros (take 64 (drop n xs)) ≡ false → are_zeros xs ≡ false
zeros_fail xs n bad =
    let here : are_zeros (drop n xs) ≡ false = ap are_zeros (sym (take-append-drop 64 (drop n xs))) ∙ zeros-append (take 64 (drop n xs)) (drop 64 (drop n xs)) ∙ ap (λ (b : Bool). b && are_zeros (drop 64 (drop n xs))) bad in
    ap are_zeros (sym (take-append-drop n xs)) ∙ zeros-append (take n xs) (drop n xs) ∙ ap (λ (b : Bool). are_zeros (take n xs) && b) here ∙ and_false (are_zeros (take n xs))
