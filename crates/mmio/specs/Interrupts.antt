-- The interrupt status (VIRTIO 1.2, 4.2.2): bit 0 says that a buffer was used, bit 1 that the configuration has changed.
use Rattle.std.specs.Prelude.{ℕ, ◌+◌, ◌-◌, ◌%◌, ◌^◌, ◌&&◌, if◌then◌else◌, bit_and, bit_or}
use Rattle.mmio.specs.Bits.{has}
use Rattle.mmio.specs.declared.common.Common.{Common}
use Rattle.mmio.specs.declared.constants.TheConstants.{DRIVER_OK, DEVICE_NEEDS_RESET, USED_BUFFER, CONFIGURATION_CHANGE}

-- The driver acknowledges: each bit that it writes as 1 is cleared.
abbrev pub acknowledged : Common → ℕ → Common
acknowledged c value = record c { interrupts = bit_and c.interrupts (255 - value % 256) }

-- The device has used a buffer.
abbrev pub used_raised : Common → Common
used_raised c = record c { interrupts = bit_or c.interrupts USED_BUFFER }

-- The device has changed its configuration: ConfigGeneration rises by one (modulo 2^32), and bit 1 is set if DRIVER_OK is
-- set and the driver has negotiated `feature`, by which it hears of such a change.
abbrev pub configuration_changed : Common → ℕ → Common
configuration_changed c feature = record c {
  generation = (c.generation + 1) % 2 ^ 32;
  interrupts =
      if (has c.status DRIVER_OK && has c.features feature) then bit_or c.interrupts CONFIGURATION_CHANGE else c.interrupts;
}

-- The device asks for a reset (VIRTIO 1.2, 2.1.2): if DRIVER_OK is set, it sets DEVICE_NEEDS_RESET and the interrupt bit of
-- a configuration change; else nothing changes.
abbrev pub reset_asked : Common → Common
reset_asked c =
    if has c.status DRIVER_OK
    then record c {
      status = bit_or c.status DEVICE_NEEDS_RESET;
      interrupts = bit_or c.interrupts CONFIGURATION_CHANGE;
    }
    else c
