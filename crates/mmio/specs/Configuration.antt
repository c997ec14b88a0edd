-- The configuration space of the device, which begins at offset 0x100 (VIRTIO 1.2, 4.2.2, 2.5).
use Rattle.std.specs.Prelude.{ℕ, zero, suc, ◌+◌, ◌*◌, ◌%◌, ◌==◌, ◌&&◌, ◌||◌, Bool, List, if◌then◌else◌, slice_index_or}
use Rattle.mmio.specs.declared.effect.Effect.{Effect}
use Rattle.mmio.specs.declared.effect.Effect.TheVariants as e

-- An access of 1, 2 or 4 bytes, aligned to its width. Offsets count from the first byte of the configuration space.
abbrev pub is_whole : ℕ → ℕ → Bool
is_whole at width = (width == 1 || width == 2 || width == 4) && at % width == 0

-- The little-endian number of `width` bytes at offset `at`. A byte past the end counts as 0.
abbrev pub number_in : List ℕ → ℕ → ℕ → ℕ
number_in config at zero = 0
number_in config at (suc width) = slice_index_or config at 0 + 256 * number_in config (at + 1) width

-- The value of a read of the configuration space: the number there, or 0 if the width is another one or the offset is
-- unaligned.
abbrev pub configuration_value : List ℕ → ℕ → ℕ → ℕ
configuration_value config at width = if is_whole at width then number_in config at width else 0

-- A write to the configuration space changes no register. With a width and an offset as above its effect is ConfigWrite,
-- for the device to act on; else it has none.
abbrev pub configuration_effect : ℕ → ℕ → Effect
configuration_effect at width = if is_whole at width then e.ConfigWrite else e.None
