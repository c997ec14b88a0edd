-- Words that lanes do not find to be other than zero.
use Rattle.std.proofs.Common.{◌≡◌, ◌+◌, ◌-◌, ◌<◌, ◌≤◌, ℕ, Bool, true, false, refl, List, length, take, drop, get_or, arith, ap}
use Rattle.std.proofs.lemmas.List.{length-take, length-drop, get_or-take, get_or-drop}
use Rattle.std.specs.Prelude.{not, ◌==◌}
use Rattle.std.proofs.lemmas.Bool.{eqb-true}

not_not : (b : Bool) → not b ≡ false → b ≡ true
not_not true e = refl
not_not false e = cc

pub zero_of : (n : ℕ) → not (n == 0) ≡ false → n ≡ 0
zero_of n e = eqb-true n 0 (not_not (n == 0) e)

pub chunk_length : (words : List ℕ) (at : ℕ) → at + 8 ≤ length words → length (take 8 (drop at words)) ≡ 8
chunk_length words at h = omega (arith, length-take 8 (drop at words), length-drop at words)

pub in_chunk : (words : List ℕ) (at k : ℕ) → at ≤ k → k < at + 8 → get_or (take 8 (drop at words)) (k - at) 0 ≡ get_or words k 0
in_chunk words at k a b =
    let same : at + (k - at) ≡ k = omega arith in
    let low : k - at < 8 = omega arith in
    rw (get_or-take, get_or-drop) (ap (λ i. get_or words i 0) same)
