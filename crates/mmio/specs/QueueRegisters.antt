-- Writes to the registers of a queue (VIRTIO 1.2, 4.2.2, 4.2.3.2, 4.2.3.3).
use Rattle.std.specs.Prelude.{ℕ, ◌==◌, ◌&&◌, true, false, not, Option, Some, None, if◌then◌else◌}
use Rattle.mmio.specs.Bits.{with_half}
use Rattle.mmio.specs.State.{Registers, with_queue}
use Rattle.mmio.specs.QueueReady.{may_be_ready}
use Rattle.mmio.specs.declared.queue.Queue.{Queue}
use Rattle.mmio.specs.declared.effect.Effect.{Effect}
use Rattle.mmio.specs.declared.effect.Effect.TheVariants as e
use Rattle.mmio.specs.declared.register.Register.{Register}
use Rattle.mmio.specs.declared.register.Register.TheVariants as x

-- A queue after a write to one of its size and address registers.
unfoldable pub queue_written : Register → ℕ → Queue → Queue
queue_written x.QueueNum value q = record q { size = value }
queue_written x.QueueDescLow value q = record q { descriptors = with_half q.descriptors 0 value }
queue_written x.QueueDescHigh value q = record q { descriptors = with_half q.descriptors 1 value }
queue_written x.QueueDriverLow value q = record q { driver = with_half q.driver 0 value }
queue_written x.QueueDriverHigh value q = record q { driver = with_half q.driver 1 value }
queue_written x.QueueDeviceLow value q = record q { device = with_half q.device 0 value }
queue_written x.QueueDeviceHigh value q = record q { device = with_half q.device 1 value }
queue_written _ value q = q

-- A write to a size or address register of the selected queue is stored if the queue exists and is not ready; else it is
-- ignored.
abbrev pub size_or_address_written : Registers → Register → ℕ → Option Queue → Effect × Registers
size_or_address_written r register value None = (e.None, r)
size_or_address_written r register value (Some q) =
    if q.is_ready then (e.None, r)
    else (e.None, with_queue r r.common.queue_select (queue_written register value q))

-- A write to QueueReady of the selected queue: 1 makes it ready, if it is not ready and may be; 0 disables it, ready or
-- not. Any other write is ignored.
abbrev pub ready_written : Registers → ℕ → Option Queue → Effect × Registers
ready_written r value None = (e.None, r)
ready_written r value (Some q) =
    if value == 0 then (
      e.Disabled r.common.queue_select,
      with_queue r r.common.queue_select (record q { is_ready = false; is_notified = false }),
    )
    else if (value == 1 && not q.is_ready && may_be_ready r.ram_base r.ram_len r.common q) then (
      e.Enabled r.common.queue_select,
      with_queue r r.common.queue_select (record q { is_ready = true }),
    )
    else (e.None, r)

-- QueueNotify names a queue by its number. Its notified flag is set if it exists and is ready.
abbrev pub notify_written : Registers → ℕ → Option Queue → Effect × Registers
notify_written r number None = (e.None, r)
notify_written r number (Some q) =
    if q.is_ready then (e.Notified number, with_queue r number (record q { is_notified = true }))
    else (e.None, r)

-- The queue was found empty: its notified flag is cleared, and it waits for the next notification.
abbrev pub notified_cleared : Registers → ℕ → Option Queue → Registers
notified_cleared r number None = r
notified_cleared r number (Some q) = with_queue r number (record q { is_notified = false })
