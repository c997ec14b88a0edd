-- The least bit of words, found by the marks of those that are not zero.
use Rattle.std.proofs.Common.{◌≡◌, ◌<◌, ◌≤◌, ℕ, ◌+◌, ◌*◌, ◌/◌, ◌%◌, Bool, true, false, List, length, get_or, refl, arith}
use Rattle.std.specs.Prelude.{◌==◌, nat_lt, MatchOption, Option, None, Some}
use Rattle.std.specs.Int.{bit_at}
use Rattle.std.proofs.lemmas.List.{get_or_past}
use Rattle.std.proofs.lemmas.Bool.{eqb-true, eqb-false}
use Rattle.std.proofs.lemmas.Nat.Bits.{bit_at-zero}
use borrow.Author.Tests.{ltb-true, ltb-false}
use Rattle.dirtylog.specs.Words.{bit_in, AreLevels, IsLeastBit}
use Rattle.dirtylog.specs.Members.{LooksThrough}

-- The bits of a word below one are clear, from another one on.
abbrev pub AreClear : ℕ → ℕ → ℕ → Type 0
AreClear word from to = (k : ℕ) → from ≤ k → k < to → bit_at word k ≡ 0

pub found_in_word : (words : List ℕ) (n bit : ℕ) → n / 64 < length words → n % 64 ≤ bit → bit < 64 → bit_at (get_or words (n / 64) 0) bit ≡ 1 → AreClear (get_or words (n / 64) 0) (n % 64) bit
    → IsLeastBit words n (64 * (n / 64) + bit)
found_in_word words n bit h a b one clear =
    let place : (64 * (n / 64) + bit) / 64 ≡ n / 64 = omega (arith, b) in
    let rest : (64 * (n / 64) + bit) % 64 ≡ bit = omega (arith, b) in record {
      reached = omega (arith, a);
      inside = omega (arith, h, b);
      one = rw (place, rest) one;
      least = λ k c d. let same : k / 64 ≡ n / 64 = omega (arith, c, d, b) in rw same (clear (k % 64) (omega (arith, c, same)) (omega (arith, d, same)));
    }

unmarked_word_at : (words marks : List ℕ) (len i : ℕ) (t : Bool) → nat_lt i (length words) ≡ t → AreLevels words marks len → bit_in marks i ≡ 0 → get_or words i 0 ≡ 0
unmarked_word_at words marks len i true e h z = h.unmarked i (ltb-true i _ e) z
unmarked_word_at words marks len i false e h z = get_or_past words i 0 (ltb-false i _ e)

unmarked_word : (words marks : List ℕ) (len i : ℕ) → AreLevels words marks len → bit_in marks i ≡ 0 → get_or words i 0 ≡ 0
unmarked_word words marks len i h z = unmarked_word_at words marks len i (nat_lt i (length words)) refl h z

later_clear : (words marks : List ℕ) (len k : ℕ) → AreLevels words marks len → bit_in marks (k / 64) ≡ 0 → bit_in words k ≡ 0
later_clear words marks len k h z = rw (unmarked_word words marks len (k / 64) h z) (bit_at-zero (k % 64))

none_at : (words marks : List ℕ) (len n k : ℕ) (t : Bool) → (k / 64 == n / 64) ≡ t → AreLevels words marks len → ((j : ℕ) → n % 64 ≤ j → bit_at (get_or words (n / 64) 0) j ≡ 0) → ((i : ℕ) → n / 64 + 1 ≤ i → bit_in marks i ≡ 0) → n ≤ k → bit_in words k ≡ 0
none_at words marks len n k true e h rest none a = let same : k / 64 ≡ n / 64 = eqb-true _ _ e in rw same (rest (k % 64) (omega (arith, same, a)))
none_at words marks len n k false e h rest none a = let other = eqb-false _ _ e in later_clear words marks len k h (none (k / 64) (omega (arith, other, a)))

pub none_found : (words marks : List ℕ) (len n : ℕ) → AreLevels words marks len → ((j : ℕ) → n % 64 ≤ j → bit_at (get_or words (n / 64) 0) j ≡ 0) → ((i : ℕ) → n / 64 + 1 ≤ i → bit_in marks i ≡ 0) → (k : ℕ) → n ≤ k → bit_in words k ≡ 0
none_found words marks len n h rest none k a = none_at words marks len n k (k / 64 == n / 64) refl h rest none a

inside_at : (words marks : List ℕ) (len i : ℕ) (t : Bool) → nat_lt i (length words) ≡ t → AreLevels words marks len → bit_in marks i ≡ 1 → i < length words
inside_at words marks len i true e h one = ltb-true i _ e
inside_at words marks len i false e h one = let zero : bit_in marks i ≡ 0 = h.marks_tail i (ltb-false i _ e) in absurd (omega (arith, zero, one))

-- A marked word is one of the words.
pub marked_inside : (words marks : List ℕ) (len i : ℕ) → AreLevels words marks len → bit_in marks i ≡ 1 → i < length words
marked_inside words marks len i h one = inside_at words marks len i (nat_lt i (length words)) refl h one

clear_before : (words marks : List ℕ) (len n next bit k : ℕ) (t s : Bool) → (k / 64 == n / 64) ≡ t → (k / 64 == next) ≡ s → AreLevels words marks len → ((j : ℕ) → n % 64 ≤ j → bit_at (get_or words (n / 64) 0) j ≡ 0) → IsLeastBit marks (n / 64 + 1) next
    → bit < 64 → ((j : ℕ) → j < bit → bit_at (get_or words next 0) j ≡ 0) → n ≤ k → k < 64 * next + bit → bit_in words k ≡ 0
clear_before words marks len n next bit k true s e f h rest m b clear a d = let same : k / 64 ≡ n / 64 = eqb-true _ _ e in rw same (rest (k % 64) (omega (arith, same, a)))
clear_before words marks len n next bit k false true e f h rest m b clear a d = let same : k / 64 ≡ next = eqb-true _ _ f in rw same (clear (k % 64) (omega (arith, same, d)))
clear_before words marks len n next bit k false false e f h rest m b clear a d =
    let other = eqb-false _ _ e in
    let before = eqb-false _ _ f in
    later_clear words marks len k h (m.least (k / 64) (omega (arith, other, a)) (omega (arith, before, d, b)))

pub found_later : (words marks : List ℕ) (len n next bit : ℕ) → AreLevels words marks len → ((j : ℕ) → n % 64 ≤ j → bit_at (get_or words (n / 64) 0) j ≡ 0) → IsLeastBit marks (n / 64 + 1) next
    → bit < 64 → bit_at (get_or words next 0) bit ≡ 1 → ((j : ℕ) → j < bit → bit_at (get_or words next 0) j ≡ 0) → IsLeastBit words n (64 * next + bit)
found_later words marks len n next bit h rest m b one clear =
    let there : next < length words = marked_inside words marks len next h m.one in
    let place : (64 * next + bit) / 64 ≡ next = omega (arith, b) in
    let low : (64 * next + bit) % 64 ≡ bit = omega (arith, b) in record {
      reached = omega (arith, m.reached);
      inside = omega (arith, there, b);
      one = rw (place, low) one;
      least = λ k a d. clear_before words marks len n next bit k (k / 64 == n / 64) (k / 64 == next) refl refl h rest m b clear a d;
    }

-- What a search looks at, told of the words of the second level and of the numbers that they speak of.
pub looks_through : (len marks n looked : ℕ) (found : Option ℕ) → (len + 4095) / 4096 ≤ marks → MatchOption found (marks ≤ looked + n / 4096) (λ m. m / 4096 < looked + n / 4096) → LooksThrough len n found looked
looks_through len marks n looked None few through = omega (arith, few, through)
looks_through len marks n looked (Some m) few through = through
