-- A mask in place of a remainder.
use Rattle.std.proofs.Common.{◌≡◌, ℕ, zero, suc, ◌+◌, ◌-◌, ◌*◌, ◌/◌, ◌%◌, ◌<◌, ◌≤◌, min, refl, ap, ◌∙◌, arith}
use Rattle.std.specs.Int.Bits.{bit_and, and_step, and_self, and_zero_r}
use Rattle.std.proofs.lemmas.Nat.{mod-mul-add, div-add-mod'}
use Rattle.std.proofs.Math.Nat.{mod-lt, mul_assoc}

-- The remainder by a number that is doubled, by the remainder of half.
mod_twice : (x m : ℕ) → 0 < m → x % (m * 2) ≡ x / 2 % m * 2 + x % 2
mod_twice x m some =
    let whole : x / 2 / m * m + x / 2 % m ≡ x / 2 = div-add-mod' (x / 2) m in
    let short : x / 2 % m < m = mod-lt (x / 2) some in
    let parts : x ≡ x / 2 / m * m * 2 + (x / 2 % m * 2 + x % 2) = omega (arith, whole) in
    ap (λ (y : ℕ). y % (m * 2)) (parts ∙ ap (λ (y : ℕ). y + (x / 2 % m * 2 + x % 2)) (mul_assoc (x / 2 / m) m 2)) ∙ mod-mul-add (x / 2 / m) (m * 2) (x / 2 % m * 2 + x % 2) (omega (arith, short))

-- What a mask of one less than a number does.
abbrev Masks : ℕ → Type 0
Masks n = bit_and n (n - 1) ≡ 0 → (x : ℕ) → bit_and x (n - 1) ≡ x % n

even : (n : ℕ) → 0 < n → n % 2 ≡ 0 → (0 < n / 2 → Masks (n / 2)) → Masks n
even n some is_even below alone x =
    let half : (n - 1) / 2 ≡ n / 2 - 1 = omega (arith, some, is_even) in
    let last : (n - 1) % 2 ≡ 1 = omega (arith, some, is_even) in
    let twice : n / 2 * 2 ≡ n = omega (arith, is_even) in
    let own : bit_and n (n - 1) ≡ bit_and (n / 2) (n / 2 - 1) * 2 + min (n % 2) 1 = rw (half, last) at (and_step n (n - 1)) in
    let down : bit_and (n / 2) (n / 2 - 1) ≡ 0 = omega (arith, own, alone) in
    let step : bit_and x (n - 1) ≡ bit_and (x / 2) (n / 2 - 1) * 2 + min (x % 2) 1 = rw (half, last) at (and_step x (n - 1)) in
    let rest : x % n ≡ x / 2 % (n / 2) * 2 + x % 2 = rw twice at (mod_twice x (n / 2) (omega (arith, some, is_even))) in
    omega (arith, step, rest, below (omega (arith, some, is_even)) down (x / 2))

odd : (n : ℕ) → n % 2 ≡ 1 → Masks n
odd n is_odd alone x =
    let half : (n - 1) / 2 ≡ n / 2 = omega (arith, is_odd) in
    let last : (n - 1) % 2 ≡ 0 = omega (arith, is_odd) in
    let own : bit_and n (n - 1) ≡ n / 2 * 2 + min (n % 2) 0 = rw (half, last, and_self) at (and_step n (n - 1)) in
    let one : n ≡ 1 = omega (arith, own, alone, is_odd) in
    rw (one, and_zero_r) (omega arith)

by_parity : (n last : ℕ) → 0 < n → n % 2 ≡ last → (0 < n / 2 → Masks (n / 2)) → Masks n
by_parity n zero some is below = even n some is below
by_parity n (suc zero) some is below = odd n is
by_parity n (suc (suc last)) some is below = absurd (omega (arith, is))

below_bound : (bound n : ℕ) → n ≤ bound → 0 < n → Masks n
below_bound zero n few some = absurd (omega (arith, few, some))
below_bound (suc bound) n few some = by_parity n (n % 2) some refl (λ half. below_bound bound (n / 2) (omega (arith, few, some)) half)

-- A number that shares no bit with the number before it is a power of two, and a mask of that gives the remainder.
pub masked : (n : ℕ) → 0 < n → bit_and n (n - 1) ≡ 0 → (x : ℕ) → bit_and x (n - 1) ≡ x % n
masked n some = below_bound n n (omega arith) some
