-- The value that a read returns (VIRTIO 1.2, 4.2.2).
use Rattle.std.specs.Prelude.{ℕ, ◌-◌, ◌==◌, List, Option, Some, None, if◌then◌else◌, nat_lt}
use Rattle.mmio.specs.Bits.{half_of}
use Rattle.mmio.specs.State.{Registers, selected}
use Rattle.mmio.specs.RegisterTable.{register_at}
use Rattle.mmio.specs.Configuration.{configuration_value}
use Rattle.mmio.specs.declared.queue.Queue.{Queue}
use Rattle.mmio.specs.declared.register.Register.{Register}
use Rattle.mmio.specs.declared.register.Register.TheVariants as x
use Rattle.mmio.specs.declared.constants.TheConstants.{CONFIG, MAGIC_VALUE, DEVICE_VERSION, VENDOR, QUEUE_SIZE_MAX, NO_REGION}

-- The registers of a queue that does not exist read 0.
abbrev pub greatest_size : Option Queue → ℕ
greatest_size None = 0
greatest_size (Some q) = QUEUE_SIZE_MAX

abbrev pub ready_number : Option Queue → ℕ
ready_number None = 0
ready_number (Some q) = if q.is_ready then 1 else 0

-- The value of each register that can be read. A register that can only be written reads 0.
unfoldable pub register_value : Registers → Register → ℕ
register_value r x.MagicValue = MAGIC_VALUE
register_value r x.Version = DEVICE_VERSION
register_value r x.DeviceId = r.device_id
register_value r x.VendorId = VENDOR
register_value r x.DeviceFeatures = half_of r.offered r.common.device_select
register_value r x.QueueNumMax = greatest_size (selected r)
register_value r x.QueueReady = ready_number (selected r)
register_value r x.InterruptStatus = r.common.interrupts
register_value r x.Status = r.common.status
register_value r x.ShmLenLow = NO_REGION
register_value r x.ShmLenHigh = NO_REGION
register_value r x.ShmBaseLow = NO_REGION
register_value r x.ShmBaseHigh = NO_REGION
register_value r x.ConfigGeneration = r.common.generation
register_value r _ = 0

-- An offset without a register reads 0.
abbrev pub value_at : Registers → Option Register → ℕ
value_at r None = 0
value_at r (Some register) = register_value r register

-- Registers are read with width 4; a read of another width returns 0. Offsets from CONFIG on are the configuration space.
abbrev pub register_read : Registers → ℕ → ℕ → List ℕ → ℕ
register_read r offset width config =
    if nat_lt offset CONFIG then (if width == 4 then value_at r (register_at offset) else 0)
    else configuration_value config (offset - CONFIG) width
