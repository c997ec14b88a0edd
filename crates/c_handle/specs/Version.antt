-- The version of the library, as a number that its users compare.
use Rattle.std.specs.Prelude.{ℕ, ◌+◌, ◌*◌, ◌^◌}

-- Version 1.1.0: the major number from bit 16 on, the minor one from bit 8 on, and the patch.
abbrev pub version : ℕ
version = 1 * 2 ^ 16 + 1 * 2 ^ 8 + 0
