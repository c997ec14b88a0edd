-- Bits of numbers, and the halves of a 64-bit number.
use Rattle.std.specs.Prelude.{◌≡◌, ℕ, ◌+◌, ◌*◌, ◌/◌, ◌%◌, ◌^◌, ◌==◌, Bool, if◌then◌else◌, bit_and}

-- Each bit that is set in the mask is set in the number: as a Boolean test, and as a proposition.
abbrev pub has : ℕ → ℕ → Bool
has number mask = bit_and number mask == mask

abbrev pub Has : ℕ → ℕ → Type 0
Has number mask = bit_and number mask ≡ mask

-- The half of a 64-bit number that a selector names: 0 the low 32 bits, 1 the high 32 bits. Any other selector gives 0.
abbrev pub half_of : ℕ → ℕ → ℕ
half_of number select =
    if select == 0 then number % 2 ^ 32
    else if select == 1 then number / 2 ^ 32
    else 0

-- The 64-bit number with that half replaced by a value. Any other selector changes nothing.
abbrev pub with_half : ℕ → ℕ → ℕ → ℕ
with_half number select value =
    if select == 0 then number / 2 ^ 32 * 2 ^ 32 + value
    else if select == 1 then value * 2 ^ 32 + number % 2 ^ 32
    else number
