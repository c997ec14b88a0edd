-- Numbers and bytes, as a word of a line encodes them.
use Rattle.std.specs.Prelude.{ℕ, ◌+◌, ◌*◌, ◌-◌, nat_le, nat_lt, Bool, true, false, ◌&&◌, ◌==◌, drop, if◌then◌else◌, List, [], ◌∷◌, length, codes, Option, Some, None, Result, Ok, Err}
use Rattle.hex.specs.Hex.{hex_digit_value, decode_of, decode_sized}

-- the second step, where the first gave a value
infixl 10 ◌>>=◌
abbrev pub ◌>>=◌ : {A B : Type 0} → Option A → (A → Option B) → Option B
(Some x) >>= f = f x
None >>= f = None

-- `0` to `9`
abbrev pub decimal_digit_value : ℕ → Option ℕ
decimal_digit_value c = if nat_le 48 c && nat_le c 57 then Some (c - 48) else None

-- the number whose digits, the most significant first, are those of `high` and then these
unfoldable pub digits_after : (ℕ → Option ℕ) → ℕ → ℕ → List ℕ → Option ℕ
digits_after digit base high [] = Some high
digits_after digit base high (c ∷ cs) = digit c >>= λ d. digits_after digit base (base * high + d) cs

-- the number that `least` to `most` digits encode, the most significant first
abbrev pub spelled : (ℕ → Option ℕ) → ℕ → ℕ → ℕ → List ℕ → Option ℕ
spelled digit base least most word =
    if nat_le least (length word) && nat_le (length word) most then digits_after digit base 0 word else None

abbrev pub begins_with : List ℕ → List ℕ → Bool
begins_with [] word = true
begins_with (p ∷ ps) [] = false
begins_with (p ∷ ps) (c ∷ cs) = (c == p) && begins_with ps cs

-- A number: 1 to 20 decimal digits, or `0x` and 1 to 16 hexadecimal digits of either case.
unfoldable pub number_of : List ℕ → Option ℕ
number_of word =
    if begins_with (codes "0x") word then spelled hex_digit_value 16 1 16 (drop 2 word)
    else spelled decimal_digit_value 10 1 20 word

-- a number that fits its field: below `bound`
abbrev pub below : ℕ → List ℕ → Option ℕ
below bound word = number_of word >>= λ n. if nat_lt n bound then Some n else None

abbrev pub ok_of : {A E : Type 0} → Result A E → Option A
ok_of (Ok x) = Some x
ok_of (Err e) = None

-- Bytes: two hexadecimal digits of either case for each, or `-` for none. An empty word is neither.
unfoldable pub bytes_of : List ℕ → Option (List ℕ)
bytes_of [] = None
bytes_of (c ∷ []) = if c == 45 then Some [] else None
bytes_of (c ∷ d ∷ cs) = ok_of (decode_of (c ∷ d ∷ cs))

-- Exactly `count` bytes, each as two hexadecimal digits of either case.
abbrev pub sized_bytes_of : ℕ → List ℕ → Option (List ℕ)
sized_bytes_of count word = ok_of (decode_sized word count)
