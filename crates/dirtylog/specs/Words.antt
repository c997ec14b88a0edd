-- A set in words of 64 bits, and a second level that has a bit for each word that is not zero.
use Rattle.std.specs.Prelude.{◌≡◌, ◌≢◌, ◌≤◌, ◌<◌, ℕ, ◌+◌, ◌*◌, ◌/◌, ◌%◌, ◌==◌, Bool, List, Option, Some, None, get_or, length, map}
use Rattle.std.specs.Int.{bit_at}
use Rattle.std.specs.List.{range_with_len}

-- The k-th bit of words of 64 bits.
abbrev pub bit_in : List ℕ → ℕ → ℕ
bit_in words k = bit_at (get_or words (k / 64) 0) (k % 64)

-- The words from index `from` on, before index `to`, are zero.
abbrev pub AreZeroBetween : List ℕ → ℕ → ℕ → Type 0
AreZeroBetween words from to = (i : ℕ) → from ≤ i → i < to → get_or words i 0 ≡ 0

-- `new` is the words after bit n became b. No other bit changed.
pub record IsWithBit (old new : List ℕ) (n b : ℕ) : Type 0 where
  pub size : length new ≡ length old
  pub here : bit_in new n ≡ b
  pub bits : (k : ℕ) → k ≢ n → bit_in new k ≡ bit_in old k
  pub words : (i : ℕ) → i ≢ n / 64 → get_or new i 0 ≡ get_or old i 0

-- The marks after word `at` was checked: if the word is zero its mark is cleared, else no mark changes.
pub record IsUnmarked (word : ℕ) (old new : List ℕ) (at : ℕ) : Type 0 where
  pub empty : word ≡ 0 → IsWithBit old new at 0
  pub other : word ≢ 0 → new ≡ old

-- Every bit of the words below the length is `b`, and every bit from the length on is 0.
pub record AreAll (b : ℕ) (words : List ℕ) (len : ℕ) : Type 0 where
  pub below : (k : ℕ) → k < len → bit_in words k ≡ b
  pub above : (k : ℕ) → len ≤ k → bit_in words k ≡ 0

-- `count` is the number of words that `len` bits need.
pub record HasRoomFor (len count : ℕ) : Type 0 where
  pub fit : len ≤ 64 * count
  pub tight : 64 * count < len + 64

-- Both levels of a set of numbers below a length: each bit of the second level says whether its word is not zero, and no
-- bit past the end of a level is set.
pub record AreLevels (words marks : List ℕ) (len : ℕ) : Type 0 where
  pub words_room : HasRoomFor len (length words)
  pub marks_room : HasRoomFor (length words) (length marks)
  pub unmarked : (i : ℕ) → i < length words → bit_in marks i ≡ 0 → get_or words i 0 ≡ 0
  pub marked : (i : ℕ) → i < length words → bit_in marks i ≡ 1 → get_or words i 0 ≢ 0
  pub tail : (k : ℕ) → len ≤ k → bit_in words k ≡ 0
  pub marks_tail : (i : ℕ) → length words ≤ i → bit_in marks i ≡ 0

-- The truth value of each number below the length.
abbrev pub flags_of : List ℕ → ℕ → List Bool
flags_of words len = map (λ k. bit_in words k == 1) (range_with_len 0 len)

-- `n` is the least set bit from bit `from` on.
pub record IsLeastBit (words : List ℕ) (from n : ℕ) : Type 0 where
  pub reached : from ≤ n
  pub inside : n < 64 * length words
  pub one : bit_in words n ≡ 1
  pub least : (k : ℕ) → from ≤ k → k < n → bit_in words k ≡ 0

-- The least set bit from bit `from` on, or None if there is none.
abbrev pub IsLeastBitFrom : List ℕ → ℕ → Option ℕ → Type 0
IsLeastBitFrom words from (Some n) = IsLeastBit words from n
IsLeastBitFrom words from None = (k : ℕ) → from ≤ k → bit_in words k ≡ 0
