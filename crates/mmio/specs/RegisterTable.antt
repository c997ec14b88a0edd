-- The table of the registers of a device (VIRTIO 1.2, 4.2.2), in the standard's order.
use Rattle.std.specs.Prelude.{ℕ, List, [], ◌∷◌, Option, Some, None, ◌==◌, if◌then◌else◌}
use Rattle.mmio.specs.declared.register.Register.{Register}
use Rattle.mmio.specs.declared.register.Register.TheVariants as r

-- Each register, by its offset in bytes. QueueReset (0x0c0) is left out: this device has no reset of a single queue, so
-- that offset is one without a register.
abbrev pub register_table : List (ℕ × Register)
register_table =
    (0x000, r.MagicValue)
    ∷ (0x004, r.Version)
    ∷ (0x008, r.DeviceId)
    ∷ (0x00c, r.VendorId)
    ∷ (0x010, r.DeviceFeatures)
    ∷ (0x014, r.DeviceFeaturesSel)
    ∷ (0x020, r.DriverFeatures)
    ∷ (0x024, r.DriverFeaturesSel)
    ∷ (0x030, r.QueueSel)
    ∷ (0x034, r.QueueNumMax)
    ∷ (0x038, r.QueueNum)
    ∷ (0x044, r.QueueReady)
    ∷ (0x050, r.QueueNotify)
    ∷ (0x060, r.InterruptStatus)
    ∷ (0x064, r.InterruptAck)
    ∷ (0x070, r.Status)
    ∷ (0x080, r.QueueDescLow)
    ∷ (0x084, r.QueueDescHigh)
    ∷ (0x090, r.QueueDriverLow)
    ∷ (0x094, r.QueueDriverHigh)
    ∷ (0x0a0, r.QueueDeviceLow)
    ∷ (0x0a4, r.QueueDeviceHigh)
    ∷ (0x0ac, r.ShmSel)
    ∷ (0x0b0, r.ShmLenLow)
    ∷ (0x0b4, r.ShmLenHigh)
    ∷ (0x0b8, r.ShmBaseLow)
    ∷ (0x0bc, r.ShmBaseHigh)
    ∷ (0x0fc, r.ConfigGeneration)
    ∷ []

abbrev pub register_in : List (ℕ × Register) → ℕ → Option Register
register_in [] offset = None
register_in (row ∷ rows) offset = if offset == row.0 then Some row.1 else register_in rows offset

-- The register at an offset, if there is one.
abbrev pub register_at : ℕ → Option Register
register_at offset = register_in register_table offset
