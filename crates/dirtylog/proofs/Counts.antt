-- A set has no members where their number is zero, and the other way round.
use Rattle.std.proofs.Common.{◌≡◌, ℕ, zero, suc, ◌+◌, ◌<◌, List, [], ◌∷◌, length, take, drop, replicate, Bool, true, false, refl, ap, arith}
use Rattle.std.specs.Prelude.{cond}
use Rattle.std.proofs.lemmas.List.Sums.{sum_by-cons}
use Rattle.std.proofs.lemmas.Bool.{true≢false}
use Rattle.dirtylog.specs.Members.{HasNone, has, member_count}

pub none_counted : (set : List Bool) → member_count set ≡ 0 → HasNone set
none_counted [] e n = refl
none_counted (true ∷ bs) e n = absurd (omega (arith, sum_by-cons (λ b. cond b 1 0) true bs, e))
none_counted (false ∷ bs) e zero = refl
none_counted (false ∷ bs) e (suc n) = none_counted bs e n

pub count_of_none : (set : List Bool) → HasNone set → member_count set ≡ 0
count_of_none [] none = refl
count_of_none (true ∷ bs) none = absurd (true≢false (none 0))
count_of_none (false ∷ bs) none = count_of_none bs (λ k. none (suc k))

-- The members below a number, those below the next one, and the others.
pub count_suc : (set : List Bool) (k : ℕ) → k < length set → member_count (take (suc k) set) ≡ member_count (take k set) + cond (has set k) 1 0
count_suc [] k below = absurd (omega (arith, below))
count_suc (b ∷ bs) zero below = omega (arith, sum_by-cons (λ (x : Bool). cond x 1 0) b [])
count_suc (b ∷ bs) (suc k) below =
    let rest = count_suc bs k (omega (arith, below)) in
    omega (arith, sum_by-cons (λ (x : Bool). cond x 1 0) b (take (suc k) bs), sum_by-cons (λ (x : Bool). cond x 1 0) b (take k bs), rest)

pub count_next : (set : List Bool) (k : ℕ) → k < length set → member_count (take (k + 1) set) ≡ member_count (take k set) + cond (has set k) 1 0
count_next set k below =
    let next : k + 1 ≡ suc k = omega arith in
    rw next (count_suc set k below)

pub count_split : (set : List Bool) (n : ℕ) → member_count set ≡ member_count (take n set) + member_count (drop n set)
count_split set zero =
    let none : member_count (take zero set) ≡ 0 = refl in
    let all : member_count (drop zero set) ≡ member_count set = refl in
    omega (arith, none, all)
count_split [] (suc n) = refl
count_split (b ∷ bs) (suc n) =
    let rest = count_split bs n in
    omega (arith, sum_by-cons (λ (x : Bool). cond x 1 0) b bs, sum_by-cons (λ (x : Bool). cond x 1 0) b (take n bs), rest)

pub none_are : (set : List Bool) → HasNone set → set ≡ replicate (length set) false
none_are [] none = refl
none_are (true ∷ bs) none = absurd (true≢false (none 0))
none_are (false ∷ bs) none = ap (λ (rest : List Bool). false ∷ rest) (none_are bs (λ k. none (suc k)))
