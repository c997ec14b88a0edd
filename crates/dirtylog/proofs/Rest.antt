-- The bits of a word from one on.
use Rattle.std.proofs.Common.{◌≡◌, ◌<◌, ◌≤◌, ℕ, ◌-◌, ◌*◌, ◌%◌, ◌^◌, Bool, true, false, refl, sym, ◌∙◌, arith}
use Rattle.std.specs.Prelude.{bit_and, nat_lt}
use Rattle.std.specs.Int.{bit_at}
use Rattle.std.proofs.lemmas.Nat.Bits.{ones_shl, bit_at_and, bit_at_mask_inside, bit_at_mask_below, bit_at_above, bit_at-lt}
use borrow.Author.Tests.{ltb-true, ltb-false}

-- A word without the bits below one.
abbrev pub rest_of : ℕ → ℕ → ℕ
rest_of word from = bit_and word ((2 ^ 64 - 1) * 2 ^ from % 2 ^ 64)

pub high_bit : (word from k : ℕ) → from < 64 → from ≤ k → k < 64 → bit_at (rest_of word from) k ≡ bit_at word k
high_bit word from k h a b =
    rw (ones_shl 64 from (omega arith), bit_at_and, bit_at_mask_inside from 64 k a b) (omega (arith, bit_at-lt word k))

pub low_bit : (word from k : ℕ) → from < 64 → k < from → bit_at (rest_of word from) k ≡ 0
low_bit word from k h a = rw (ones_shl 64 from (omega arith), bit_at_and, bit_at_mask_below from 64 k a) (omega arith)

none_at : (word from k : ℕ) (b : Bool) → nat_lt k 64 ≡ b → from < 64 → word < 2 ^ 64 → ((j : ℕ) → bit_at (rest_of word from) j ≡ 0) → from ≤ k → bit_at word k ≡ 0
none_at word from k true e h fits none a = sym (high_bit word from k h a (ltb-true k 64 e)) ∙ none k
none_at word from k false e h fits none a = bit_at_above word 64 k fits (ltb-false k 64 e)

pub none_from : (word from : ℕ) → from < 64 → word < 2 ^ 64 → ((j : ℕ) → bit_at (rest_of word from) j ≡ 0) → (k : ℕ) → from ≤ k → bit_at word k ≡ 0
none_from word from h fits none k a = none_at word from k (nat_lt k 64) refl h fits none a

reached_at : (word from n : ℕ) (b : Bool) → nat_lt n from ≡ b → from < 64 → bit_at (rest_of word from) n ≡ 1 → from ≤ n
reached_at word from n true e h one = let zero : bit_at (rest_of word from) n ≡ 0 = low_bit word from n h (ltb-true n from e) in absurd (omega (arith, zero, one))
reached_at word from n false e h one = ltb-false n from e

pub reached : (word from n : ℕ) → from < 64 → bit_at (rest_of word from) n ≡ 1 → from ≤ n
reached word from n h one = reached_at word from n (nat_lt n from) refl h one
