-- Members counted by words: by the bits that are set in each.
use Rattle.std.proofs.Common.{◌≡◌, ◌<◌, ◌≤◌, ℕ, zero, suc, ◌+◌, ◌*◌, ◌/◌, ◌%◌, ◌^◌, Bool, false, List, take, get_or, refl, ap, sym, ◌∙◌, arith}
use Rattle.std.specs.Prelude.{◌==◌, cond, count_ones}
use Rattle.std.specs.Int.{bit_at}
use lib.Count.{ones}
use Rattle.std.proofs.lemmas.List.{get_or-take, length-take-le, take_all}
use Rattle.std.proofs.lemmas.List.FromFn.{fill_by_all}
use Rattle.std.proofs.lemmas.List.Sums.{count_by-le-length}
use Rattle.std.proofs.lemmas.Nat.{mod-pow-add, ones_cat, pow_pos}
use Rattle.std.proofs.lemmas.Nat.Bits.{bit_at-lt}
use Rattle.dirtylog.specs.Members.{has, member_count}
use Rattle.dirtylog.specs.Words.{bit_in, flags_of}
use Rattle.dirtylog.proofs.Counts.{count_next}
use Rattle.dirtylog.proofs.Flags.{flag_at, flags_length}

bit_counts : (b : ℕ) → b < 2 → count_ones b ≡ cond (b == 1) 1 0
unfolding ones
bit_counts zero low = refl
bit_counts (suc zero) low = refl
bit_counts (suc (suc b)) low = absurd (omega (arith, low))

no_bits : count_ones 0 ≡ 0
unfolding ones
no_bits = refl

-- One bit more.
low_bits : (word k : ℕ) → count_ones (word % 2 ^ (k + 1)) ≡ count_ones (word % 2 ^ k) + cond (bit_at word k == 1) 1 0
low_bits word k =
    let next : k + 1 ≡ 1 + k = omega arith in
    let low : word % 2 ^ k < 2 ^ k = omega (arith, pow_pos k) in
    rw (next, mod-pow-add word 1 k) (omega (arith, ones_cat k (bit_at word k) (word % 2 ^ k) low, bit_counts (bit_at word k) (bit_at-lt word k)))

-- The members below a number are those below its word, and as many as its word has bits below it.
pub count_in_word : (words : List ℕ) (len at k : ℕ) → k ≤ 64 → 64 * at + k ≤ len
    → member_count (take (64 * at + k) (flags_of words len)) ≡ member_count (take (64 * at) (flags_of words len)) + count_ones (get_or words at 0 % 2 ^ k)
count_in_word words len at zero few within =
    let same : 64 * at + 0 ≡ 64 * at = omega arith in
    let empty : get_or words at 0 % 2 ^ 0 ≡ 0 = omega arith in
    rw (same, empty) (omega (arith, no_bits))
count_in_word words len at (suc k) few within =
    let n = 64 * at + k in
    let flags = flags_of words len in
    let next : 64 * at + suc k ≡ n + 1 = omega arith in
    let more : suc k ≡ k + 1 = omega arith in
    let word : n / 64 ≡ at = omega (arith, few) in
    let place : n % 64 ≡ k = omega (arith, few) in
    let here : has flags n ≡ (bit_at (get_or words at 0) k == 1) = rw (word, place) at (flag_at words len n (omega (arith, within))) in
    rw (next, more) (omega (arith, count_in_word words len at k (omega (arith, few)) (omega (arith, within)), rw here at (count_next flags n (omega (arith, within, flags_length words len))), low_bits (get_or words at 0) k))

pub all_counted : (words : List ℕ) (n : ℕ) → member_count (take n (flags_of words n)) ≡ member_count (flags_of words n)
all_counted words n = ap member_count (take_all n (flags_of words n) (omega (arith, flags_length words n)))

pub few_counted : (words : List ℕ) (n k : ℕ) → k ≤ n → member_count (take k (flags_of words n)) ≤ n
few_counted words n k within =
    omega (arith, within, count_by-le-length (λ (b : Bool). b) (take k (flags_of words n)), length-take-le k (flags_of words n) (omega (arith, within, flags_length words n)), flags_length words n)

-- The members below a number, of a longer set.
flags_below : (words : List ℕ) (len n : ℕ) → n ≤ len → take n (flags_of words len) ≡ flags_of words n
flags_below words len n within =
    fill_by_all (λ k. bit_in words k == 1) (take n (flags_of words len)) n false (length-take-le n (flags_of words len) (omega (arith, within, flags_length words len)))
    (λ k low. get_or-take n (flags_of words len) k false low ∙ flag_at words len k (omega (arith, low, within)))

pub counted_below : (words : List ℕ) (len n : ℕ) → n ≤ len → member_count (flags_of words n) ≡ member_count (take n (flags_of words len))
counted_below words len n within = ap member_count (sym (flags_below words len n within))
