-- What is told of disks that were lost, and of a machine whose RAM is lent.
use Rattle.std.proofs.Common.{◌≡◌, ◌≤◌, ◌<◌, ◌+◌, ◌*◌, ◌-◌, ℕ, Bool, true, false, List, [], ◌∷◌, refl, sym, ap, ◌∙◌, arith, drop, get_or, length, subst}
use Prim.Native.Nat.{zero, suc}
use Rattle.std.specs.Prelude.{Option, Some, None}
use Rattle.std.proofs.lemmas.List.{drop_more, length-drop}
use Rattle.c_handle.specs.Described.{loan_phase, lost_bits, number_of, sent_as, told_lent, told_parked}
use Rattle.c_handle.specs.Kept.{LoanSeen, StillLent, MovingLent, parked_in}
use Rattle.sender.specs.declared.phase.Phase.{Phase}
use Rattle.c_machine.specs.declared.description.Description.{Description}

-- Disks that were lost, one bit before another: those of 16 devices are a number of 16 bits.
abbrev doubled : ℕ → ℕ
doubled zero = 1
doubled (suc n) = 2 * doubled n

some_doubled : (n : ℕ) → 0 < doubled n
some_doubled zero = omega arith
some_doubled (suc n) = let rest = some_doubled n in omega (arith, rest)

pub bit_few : (b : Bool) (n : ℕ) → n ≡ number_of b → n ≤ 1
bit_few true n is = omega (arith, is)
bit_few false n is = omega (arith, is)

few_bits : (n : ℕ) (lost : List Bool) → length lost ≤ n → lost_bits lost < doubled n
few_bits n [] few = some_doubled n
few_bits zero (b ∷ lost) few = absurd (omega (arith, few))
few_bits (suc n) (b ∷ lost) few =
    let rest : lost_bits lost < doubled n = few_bits n lost (omega (arith, few)) in
    let one : number_of b ≤ 1 = bit_few b (number_of b) refl in
    omega (arith, rest, one)

pub bits_fit : (lost : List Bool) (at bits : ℕ) → length lost ≤ 16 → bits ≡ lost_bits (drop at lost) → bits < 65536
bits_fit lost at bits few is =
    let left : length (drop at lost) ≡ length lost - at = length-drop at lost in
    subst (λ (n : ℕ). n < 65536) (sym is) (few_bits 16 (drop at lost) (omega (arith, left, few)))

pub one_bit : (lost : List Bool) (at bits bit : ℕ) (d : Bool) → 0 < at → at ≤ length lost → bit ≡ number_of (get_or lost (at - 1) d) → bits ≡ lost_bits (drop at lost) → 2 * bits + bit ≡ lost_bits (drop (at - 1) lost)
one_bit lost at bits bit d some within is so_far =
    let next : at - 1 + 1 ≡ at = omega (arith, some) in
    let all : lost_bits (drop (at - 1) lost) ≡ number_of (get_or lost (at - 1) d) + 2 * lost_bits (drop (at - 1 + 1) lost) = ap lost_bits (drop_more lost (at - 1) d (omega (arith, some, within))) in
    let same : lost_bits (drop (at - 1 + 1) lost) ≡ lost_bits (drop at lost) = ap (λ (k : ℕ). lost_bits (drop k lost)) next in
    omega (arith, all, same, is, so_far)

pub no_bit : (lost : List Bool) (at bits : ℕ) → at ≤ 0 → bits ≡ lost_bits (drop at lost) → bits ≡ lost_bits lost
no_bit lost at bits end so_far = let none : at ≡ 0 = omega (arith, end) in so_far ∙ ap (λ (k : ℕ). lost_bits (drop k lost)) none

of_some : (a b : Phase) → ◌≡◌ {A = Option Phase} (Some a) (Some b) → a ≡ b
of_some a b is = cc

-- A machine whose RAM is lent.
pub lent_still : (x : LoanSeen) (o : Option Phase) (d : Description) → o ≡ None → o ≡ loan_phase x → d ≡ told_parked (parked_in x) → d ≡ told_lent x
lent_still (StillLent p) o d none is told = told
lent_still (MovingLent l) o d none is told = let other : ◌≡◌ {A = Option Phase} None (Some l.phase) = sym none ∙ is in absurd cc

pub lent_moving : (x : LoanSeen) (o : Option Phase) (phase : Phase) (d result : Description) → o ≡ Some phase → o ≡ loan_phase x → d ≡ told_parked (parked_in x) → result ≡ sent_as d phase → result ≡ told_lent x
lent_moving (StillLent p) o phase d result some is told sent = let other : ◌≡◌ {A = Option Phase} (Some phase) None = sym some ∙ is in absurd cc
lent_moving (MovingLent l) o phase d result some is told sent = let same : phase ≡ l.phase = of_some phase l.phase (sym some ∙ is) in rw (sent, told, same) refl
