-- Which register writes drop requests that may have asked something of a disk outside.
use Rattle.std.specs.Prelude.{ℕ, ◌&&◌, nat_lt, not, Bool, false, length, Option, Some, None, slice_get}
use Rattle.mmio.specs.RegisterWrite.{register_write}
use Rattle.machine.specs.Outside.{outside_requests}
use Rattle.machine.specs.State.{DeviceState, MachineState}
use Rattle.machine.specs.Step.{is_first_ready}

-- A write drops them where there are some, and their queue is not ready after it: by a reset, or by QueueReady 0 (VIRTIO 1.2, 2.1 and 4.2.2).
abbrev pub drops_requests : DeviceState → ℕ → ℕ → ℕ → Bool
drops_requests d offset width value = nat_lt 0 (length (outside_requests d.kind)) && not (is_first_ready (register_write d.registers offset width value).1.queues)

abbrev pub drops_in : Option DeviceState → ℕ → ℕ → ℕ → Bool
drops_in None offset width value = false
drops_in (Some d) offset width value = drops_requests d offset width value

-- The same of the device of this number.
abbrev pub drops_of : MachineState → ℕ → ℕ → ℕ → ℕ → Bool
drops_of m dev offset width value = drops_in (slice_get m.devices dev) offset width value
