-- The feature bits, in two halves of 32 bits (VIRTIO 1.2, 2.2, 4.2.2).
use Rattle.std.specs.Prelude.{ℕ, if◌then◌else◌}
use Rattle.mmio.specs.Bits.{has, with_half}
use Rattle.mmio.specs.declared.common.Common.{Common}
use Rattle.mmio.specs.declared.constants.TheConstants.{FEATURES_OK}

-- The driver writes the half of its features that DriverFeaturesSel names. Once FEATURES_OK is set such writes are ignored.
abbrev pub features_written : Common → ℕ → Common
features_written c value =
    if has c.status FEATURES_OK then c
    else record c { features = with_half c.features c.driver_select value }
