-- A page of zeros that is set to zeros.
use Rattle.std.proofs.Common.{◌≡◌, ℕ, ◌+◌, ◌*◌, ◌≤◌, Bool, true, false, ◌&&◌, ◌==◌, List, [], ◌∷◌, ◌++◌, length, take, drop, replicate, refl, sym, ap, ◌∙◌, arith, append_assoc}
use Rattle.std.proofs.lemmas.Bool.{eqb-true}
use Rattle.std.proofs.lemmas.List.{take-append-drop, length-take, length-drop, drop-drop}
use Rattle.guestmem.specs.Page.{page_of}
use Rattle.guestmem.specs.Write.{put_at}
use Rattle.guestmem.specs.Zeros.{are_zeros}

both_true : (a b : Bool) → (a && b) ≡ true → (a ≡ true) × (b ≡ true)
both_true true b e = (refl, e)
both_true false b e = cc

cons_alike : {a b : ℕ} {x y : List ℕ} → a ≡ b → x ≡ y → a ∷ x ≡ b ∷ y
cons_alike e f = rw (e, f) refl

zeros_are : (xs : List ℕ) → are_zeros xs ≡ true → replicate (length xs) 0 ≡ xs
unfolding are_zeros
zeros_are [] is = refl
zeros_are (x ∷ xs) is =
    let p = both_true (x == 0) (are_zeros xs) is in
    cons_alike (sym (eqb-true x 0 p.0)) (zeros_are xs p.1)

put_same : (ram : List ℕ) (at n : ℕ) → at + n ≤ length ram → put_at ram at (take n (drop at ram)) ≡ ram
put_same ram at n inside =
    let long : length (take n (drop at ram)) ≡ n = omega (arith, inside, length-take n (drop at ram), length-drop at ram) in
    rw long (append_assoc (take at ram) (take n (drop at ram)) (drop (at + n) ram) ∙ ap (λ (rest : List ℕ). take at ram ++ (take n (drop at ram) ++ rest)) (sym (drop-drop n at ram)) ∙ ap (λ (rest : List ℕ). take at ram ++ rest) (take-append-drop n (drop at ram)) ∙ take-append-drop at ram)

-- It stays as it is.
pub clear_same : (ram : List ℕ) (n : ℕ) → 4096 * n + 4096 ≤ length ram → are_zeros (page_of ram n) ≡ true → put_at ram (4096 * n) (replicate 4096 0) ≡ ram
clear_same ram n inside zeros =
    let long : length (page_of ram n) ≡ 4096 = omega (arith, inside, length-take 4096 (drop (4096 * n) ram), length-drop (4096 * n) ram) in
    let is : replicate 4096 0 ≡ page_of ram n = ap (λ (k : ℕ). replicate k 0) (sym long) ∙ zeros_are (page_of ram n) zeros in
    ap (put_at ram (4096 * n)) is ∙ put_same ram (4096 * n) 4096 inside
