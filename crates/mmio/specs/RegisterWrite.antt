-- What a write does: its effect on the device, and the registers after it (VIRTIO 1.2, 4.2.2).
use Rattle.std.specs.Prelude.{ℕ, ◌-◌, ◌==◌, Option, Some, None, if◌then◌else◌, nat_lt}
use Rattle.mmio.specs.State.{Registers, reset_registers, with_common, queue_at, selected}
use Rattle.mmio.specs.RegisterTable.{register_at}
use Rattle.mmio.specs.Configuration.{configuration_effect}
use Rattle.mmio.specs.Interrupts.{acknowledged}
use Rattle.mmio.specs.Status.{status_after}
use Rattle.mmio.specs.Features.{features_written}
use Rattle.mmio.specs.QueueRegisters.{size_or_address_written, ready_written, notify_written}
use Rattle.mmio.specs.declared.effect.Effect.{Effect}
use Rattle.mmio.specs.declared.effect.Effect.TheVariants as e
use Rattle.mmio.specs.declared.register.Register.{Register}
use Rattle.mmio.specs.declared.register.Register.TheVariants as x
use Rattle.mmio.specs.declared.constants.TheConstants.{CONFIG}

-- The value 0 resets the device (VIRTIO 1.2, 2.1); any other one adds bits.
abbrev pub status_written : Registers → ℕ → Effect × Registers
status_written r value =
    if value == 0 then (e.Reset, reset_registers r)
    else (e.None, with_common r (record r.common { status = status_after r.offered r.common value }))

-- What a write to each register does. The selectors store the whole value. A register that can only be read ignores writes,
-- and so does SHMSel, since there is no shared memory region.
unfoldable pub register_written : Registers → Register → ℕ → Effect × Registers
register_written r x.DeviceFeaturesSel value = (e.None, with_common r (record r.common { device_select = value }))
register_written r x.DriverFeatures value = (e.None, with_common r (features_written r.common value))
register_written r x.DriverFeaturesSel value = (e.None, with_common r (record r.common { driver_select = value }))
register_written r x.QueueSel value = (e.None, with_common r (record r.common { queue_select = value }))
register_written r x.QueueNum value = size_or_address_written r x.QueueNum value (selected r)
register_written r x.QueueReady value = ready_written r value (selected r)
register_written r x.QueueNotify value = notify_written r value (queue_at r value)
register_written r x.InterruptAck value = (e.None, with_common r (acknowledged r.common value))
register_written r x.Status value = status_written r value
register_written r x.QueueDescLow value = size_or_address_written r x.QueueDescLow value (selected r)
register_written r x.QueueDescHigh value = size_or_address_written r x.QueueDescHigh value (selected r)
register_written r x.QueueDriverLow value = size_or_address_written r x.QueueDriverLow value (selected r)
register_written r x.QueueDriverHigh value = size_or_address_written r x.QueueDriverHigh value (selected r)
register_written r x.QueueDeviceLow value = size_or_address_written r x.QueueDeviceLow value (selected r)
register_written r x.QueueDeviceHigh value = size_or_address_written r x.QueueDeviceHigh value (selected r)
register_written r _ value = (e.None, r)

-- A write to an offset without a register is ignored.
abbrev pub written_at : Registers → Option Register → ℕ → Effect × Registers
written_at r None value = (e.None, r)
written_at r (Some register) value = register_written r register value

-- Registers are written with width 4; a write of another width is ignored. Offsets from CONFIG on are the configuration
-- space.
abbrev pub register_write : Registers → ℕ → ℕ → ℕ → Effect × Registers
register_write r offset width value =
    if nat_lt offset CONFIG then (if width == 4 then written_at r (register_at offset) value else (e.None, r))
    else (configuration_effect (offset - CONFIG) width, r)
