-- Lists of numbers of given widths, as bytes: the lowest byte of each number first.
use Rattle.std.specs.Prelude.{ℕ, zero, suc, ◌+◌, ◌<◌, ◌^◌, List, [], ◌∷◌, ◌++◌, Bool, true, false}
use Rattle.byteorder.specs.Endian.{little_bytes}
use Rattle.guestmem.specs.Number.{number_at}

-- The encoding of a number in as many bytes as the first argument says. In one byte it is the number itself.
abbrev pub digits : ℕ → ℕ → List ℕ
digits zero n = []
digits (suc zero) n = n ∷ []
digits (suc (suc w)) n = little_bytes (suc (suc w)) n

-- The encodings of numbers in these widths, one after another.
abbrev pub spelled : List ℕ → List ℕ → List ℕ
spelled [] ns = []
spelled (w ∷ ws) [] = []
spelled (w ∷ ws) (n ∷ ns) = digits w n ++ spelled ws ns

-- The numbers of these widths that the bytes encode from the offset `at` on.
abbrev pub numbers : List ℕ → ℕ → List ℕ → List ℕ
numbers [] at bytes = []
numbers (w ∷ ws) at bytes = number_at bytes at w ∷ numbers ws (at + w) bytes

-- Each number fits its width.
abbrev pub Fit : List ℕ → List ℕ → Type 0
Fit [] [] = Unit {0}
Fit [] (n ∷ ns) = ⊥
Fit (w ∷ ws) [] = ⊥
Fit (w ∷ ws) (n ∷ ns) = (n < 256 ^ w) × Fit ws ns

-- The number that encodes a truth value.
abbrev pub flag : Bool → ℕ
flag true = 1
flag false = 0
