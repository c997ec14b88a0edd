-- The device status (VIRTIO 1.2, 2.1, 3.1): what a write adds to it.
use Rattle.std.specs.Prelude.{ℕ, ◌&&◌, Bool, not, if◌then◌else◌, bit_and, bit_or}
use Rattle.mmio.specs.Bits.{has}
use Rattle.mmio.specs.declared.common.Common.{Common}
use Rattle.mmio.specs.declared.constants.TheConstants.{DRIVER_OK, FEATURES_OK, DEVICE_NEEDS_RESET, FREE_STATUS_BITS, VERSION_1}

-- The device accepts the driver's features (VIRTIO 1.2, 2.2, 6.2): they are among the offered ones, and include VERSION_1.
abbrev pub is_accepted : ℕ → ℕ → Bool
is_accepted offered features = has offered features && has features VERSION_1

-- ACKNOWLEDGE, DRIVER and FAILED are added as they are written.
abbrev pub with_free_bits : ℕ → ℕ → ℕ
with_free_bits value status = bit_or status (bit_and value FREE_STATUS_BITS)

-- FEATURES_OK is added exactly when the device accepts the driver's features.
abbrev pub with_features_ok : ℕ → ℕ → ℕ → ℕ → ℕ
with_features_ok offered features value status =
    if (has value FEATURES_OK && is_accepted offered features) then bit_or status FEATURES_OK else status

-- DRIVER_OK is added only if FEATURES_OK is set, which the same write may have done.
abbrev pub with_driver_ok : ℕ → ℕ → ℕ
with_driver_ok value status =
    if (has value DRIVER_OK && has status FEATURES_OK) then bit_or status DRIVER_OK else status

-- The status after a write of a value other than 0. No other bit is added, and none is cleared.
unfoldable pub status_after : ℕ → Common → ℕ → ℕ
status_after offered c value =
    with_driver_ok value (with_features_ok offered c.features value (with_free_bits value c.status))

-- DRIVER_OK is set and DEVICE_NEEDS_RESET is not: only then does the device do its work.
abbrev pub is_running : Common → Bool
is_running c = has c.status DRIVER_OK && not (has c.status DEVICE_NEEDS_RESET)
