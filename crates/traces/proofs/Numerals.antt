-- One digit more of a number.
use Rattle.std.proofs.Common.{◌≡◌, ℕ, ◌+◌, ◌*◌, ◌^◌, ◌<◌, ◌≤◌, List, [], length, get_or, drop, Option, Some, None, refl, sym, ◌∙◌, add-one, arith}
use Rattle.std.proofs.Math.Seq.{drop-cons}
use Rattle.std.proofs.Math.Nat.{mul-le-mul_left, mul-suc, pow-succ', pow-le-pow_right}
use Rattle.std.proofs.Math.ListN.{drop_of_length-le}
use Rattle.traces.specs.Numbers.{◌>>=◌, digits_after}

next_digit : (digit : ℕ → Option ℕ) (base high : ℕ) (word : List ℕ) (i : ℕ) → i < length word
    → digits_after digit base high (drop i word) ≡ (digit (get_or word i 0) >>= λ d. digits_after digit base (base * high + d) (drop (i + 1) word))
unfolding digits_after
next_digit digit base high word i h = rw (add-one, drop-cons word i 0) refl

pub goes_on : (digit : ℕ → Option ℕ) (base high : ℕ) (word : List ℕ) (i d : ℕ) (total : Option ℕ) → i < length word → digit (get_or word i 0) ≡ Some d
    → digits_after digit base high (drop i word) ≡ total → digits_after digit base (base * high + d) (drop (i + 1) word) ≡ total
goes_on digit base high word i d total h is so_far =
    let one = next_digit digit base high word i h in sym (simp is at one) ∙ so_far

pub fails : (digit : ℕ → Option ℕ) (base high : ℕ) (word : List ℕ) (i : ℕ) (total : Option ℕ) → i < length word → digit (get_or word i 0) ≡ None
    → digits_after digit base high (drop i word) ≡ total → None ≡ total
fails digit base high word i total h is so_far =
    let one = next_digit digit base high word i h in sym (simp is at one) ∙ so_far

pub ends : (digit : ℕ → Option ℕ) (base high : ℕ) (word : List ℕ) (i : ℕ) (total : Option ℕ) → length word ≤ i
    → digits_after digit base high (drop i word) ≡ total → Some high ≡ total
unfolding digits_after
ends digit base high word i total h so_far = let e : drop i word ≡ [] = drop_of_length-le word h in rw e at so_far

pub grows : (base high i d : ℕ) → high < base ^ i → d < base → base * high + d < base ^ (i + 1)
grows base high i d h k =
    let step : base * (high + 1) ≤ base * base ^ i = mul-le-mul_left base (omega arith) in
    let split : base * (high + 1) ≡ base * high + base = rw (add-one, mul-suc) refl in
    let power : base ^ (i + 1) ≡ base * base ^ i = rw (add-one) (pow-succ' base i) in
    omega (arith, step, split, power)

pub below_sixteen : (high i : ℕ) → high < 16 ^ i → i ≤ 16 → high < 2 ^ 64
below_sixteen high i h k = let most : 16 ^ i ≤ 16 ^ 16 = pow-le-pow_right (omega arith) k in omega (arith, most)
