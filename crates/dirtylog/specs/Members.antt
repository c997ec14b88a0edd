-- Sets of numbers below a length. A set is the list that says of each of these numbers whether it is a member.
use Rattle.std.specs.Prelude.{◌≡◌, ℕ, ◌+◌, ◌/◌, ◌≤◌, ◌<◌, ◌^◌, List, Bool, true, false, Option, Some, None, slice_index_or, count_by, length}

-- Whether a number is a member. One that is not below the length is not.
abbrev pub has : List Bool → ℕ → Bool
has set n = slice_index_or set n false

-- There is no member.
abbrev pub HasNone : List Bool → Type 0
HasNone set = (n : ℕ) → has set n ≡ false

-- `n` is the least member that is at least `from`.
pub record IsLeast (set : List Bool) (from n : ℕ) : Type 0 where
  pub reached : from ≤ n
  pub member : has set n ≡ true
  pub least : (k : ℕ) → from ≤ k → k < n → has set k ≡ false

-- The least member that is at least `from`, or None if there is none.
abbrev pub IsLeastFrom : List Bool → ℕ → Option ℕ → Type 0
IsLeastFrom set from (Some n) = IsLeast set from n
IsLeastFrom set from None = (k : ℕ) → from ≤ k → has set k ≡ false

-- A search from `n` on, in a set of numbers below `len`, looks at no fewer words than the second level has from the word for `n` to the
-- word for the number found, or to the last one. A word of the second level is for 4,096 numbers.
abbrev pub LooksThrough : ℕ → ℕ → Option ℕ → ℕ → Type 0
LooksThrough len n (Some m) looked = m / 4096 < looked + n / 4096
LooksThrough len n None looked = (len + 4095) / 4096 ≤ looked + n / 4096

-- How many members there are.
abbrev pub member_count : List Bool → ℕ
member_count set = count_by (λ b. b) set

-- The count that is stored with a set is the number of its members. The length fits 64 bits.
pub record HasCount (set : List Bool) (members : ℕ) : Type 0 where
  pub counted : members ≡ member_count set
  pub fits : length set < 2 ^ 64
