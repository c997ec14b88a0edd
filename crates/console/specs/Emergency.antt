-- The emergency register of a console, by which a driver writes a byte without a queue (VIRTIO 1.2, 5.3.4 and 5.3.5).
use Rattle.std.specs.Prelude.{ℕ, ◌==◌, ◌&&◌, ◌||◌, ◌%◌, Option, Some, None, if◌then◌else◌}
use Rattle.console.specs.declared.emergency.TheConstants.{EMERGENCY}

-- The byte that a write outputs: the lowest byte of the value, if it is a write of 1, 2 or 4 bytes at the register.
abbrev pub emergency_byte : ℕ → ℕ → ℕ → Option ℕ
emergency_byte offset width value =
    if offset == EMERGENCY && (width == 1 || width == 2 || width == 4) then Some (value % 256) else None
