-- The queue that a step looks at, and what is malformed there.
use Rattle.std.specs.Prelude.{◌≡◌, ℕ, true, Some, slice_get}
use Rattle.mmio.specs.State.{queue_at}
use Rattle.mmio.specs.Status.{is_running}
use Rattle.mmio.specs.declared.queue.Queue.{Queue}
use Rattle.chains.specs.State.{RingState, state_of}
use Rattle.chains.specs.Look.{Sees}
use Rattle.chains.specs.declared.next.Next.TheVariants.{Malformed}
use Rattle.chains.specs.declared.position.Positions.{Positions}
use Rattle.machine.specs.DeviceStep.{has_work, wanted_of}
use Rattle.machine.specs.State.{DeviceState, MachineState}

-- A step of a device with this pick looks at this ring: DRIVER_OK is set and DEVICE_NEEDS_RESET is not; the pick is the number
-- of one of its queues, which is ready and notified; and the device has something to do there (VIRTIO 1.2, 2.1.2).
pub record IsLookedAt (d : DeviceState) (pick : ℕ) (q : RingState) : Type 0 where
  pub queue : Queue
  pub positions : Positions
  pub there : queue_at d.registers pick ≡ Some queue
  pub placed : slice_get d.positions pick ≡ Some positions
  pub driven : is_running d.registers.common ≡ true
  pub ready : queue.is_ready ≡ true
  pub notified : queue.is_notified ≡ true
  pub work : has_work d.kind pick ≡ true
  pub is : q ≡ state_of queue d.registers.common.features d.registers.ram_base positions

-- A step of a device with this pick looks at a queue that is malformed for it: there is no chain at all, or one that the device
-- cannot use.
pub record LooksAtMalformed (m : MachineState) (dev pick : ℕ) : Type 0 where
  pub device : DeviceState
  pub there : slice_get m.devices dev ≡ Some device
  pub ring : RingState
  pub looked : IsLookedAt device pick ring
  pub sees : Sees (wanted_of device.kind pick) m.ram ring Malformed
