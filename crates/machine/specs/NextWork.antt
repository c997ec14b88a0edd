-- Which steps of the devices have something to do, and which of them is next in turn.
use Rattle.std.specs.Prelude.{◌≡◌, ℕ, ◌+◌, ◌-◌, ◌*◌, ◌/◌, ◌%◌, ◌<◌, ◌++◌, ◌||◌, ◌&&◌, not, min, ◌≢◌, ◌⊎◌, Bool, true, false, List, length, map, Option, Some, None, slice_get, slice_index_or}
use Rattle.std.specs.List.{find, range_with_len}
use Rattle.std.specs.Option.{is_some}
use Rattle.blk.specs.declared.durable.SyncOwed.{SyncOwed}
use Rattle.blk.specs.declared.durable.SyncOwed.TheVariants.{EndOfWrite}
use Rattle.mmio.specs.State.{queue_at}
use Rattle.mmio.specs.declared.queue.Queue.{Queue}
use Rattle.machine.specs.DeviceStep.{advanced_at, looked_at}
use Rattle.machine.specs.Outcome.{Outcome}
use Rattle.machine.specs.Sound.{IsSound}
use Rattle.machine.specs.State.{DeviceState, MachineState}
use Rattle.machine.specs.Step.{IsStep}
use Rattle.machine.specs.Unsynced.{owed}
use Rattle.machine.specs.declared.event.Event.TheVariants.{Step}
use Rattle.machine.specs.declared.reply.Reply.{Reply}
use Rattle.machine.specs.declared.reply.Reply.TheVariants.{Idle}
use Rattle.machine.specs.declared.work.Work.{Work}

-- A step of a device with this pick has something to do: it looks at a queue, or it advances an outstanding request. Whether
-- the queue is empty does not matter. If it is, the step clears its notified flag.
abbrev pub has_work_with : DeviceState → ℕ → Bool
has_work_with d pick = is_some (looked_at d pick) || is_some (advanced_at d pick)

-- The picks from `first` on, up to 255.
unfoldable pub picks_from : ℕ → List ℕ
picks_from first = range_with_len first (256 - first)

abbrev pub device_has_work : Option DeviceState → ℕ → Bool
device_has_work None pick = false
device_has_work (Some d) pick = has_work_with d pick

abbrev pub has_work_at : List DeviceState → Work → Bool
has_work_at devices w = device_has_work (slice_get devices w.dev) w.pick

-- The step ends a write, or a clearing, of a driver that did not accept FLUSH, and so takes it for durable (VIRTIO 1.2, 5.2.6.2).
abbrev pub is_end_owed : SyncOwed → Bool
is_end_owed EndOfWrite = true
is_end_owed _ = false

-- A step has something to do, and may be made. Of a device whose disk is lost, since what was written to it does not become durable, a
-- step that ends such a write may not.
abbrev pub can_work_with : Bool → DeviceState → ℕ → Bool
can_work_with lost d pick = not (lost && is_end_owed (owed d pick)) && has_work_with d pick

abbrev pub device_can_work : Bool → Option DeviceState → ℕ → Bool
device_can_work lost None pick = false
device_can_work lost (Some d) pick = can_work_with lost d pick

-- As above, where a list says of each device whether its disk is lost. One past its end is not.
abbrev pub can_work_at : List Bool → List DeviceState → Work → Bool
can_work_at lost devices w = device_can_work (slice_index_or lost w.dev false) (slice_get devices w.dev) w.pick

-- The steps in order: the 256 picks of device 0, then those of device 1, and so on. Each has its number in this order.
abbrev pub number_of : Work → ℕ
number_of w = 256 * w.dev + w.pick

abbrev pub work_of : ℕ → Work
work_of n = record { dev = n / 256; pick = n % 256 }

-- The steps with the numbers from `first` up to, but not including, `end`.
unfoldable pub steps_between : ℕ → ℕ → List Work
steps_between first end = map work_of (range_with_len first (end - first))

-- All steps of `devices` devices, in turn after the step `last`: first those after it, and then those from the first step of
-- all up to it. So that step itself comes last.
abbrev pub in_turn_after : Work → ℕ → List Work
in_turn_after last devices =
    steps_between (number_of last + 1) (256 * devices) ++ steps_between 0 (min (number_of last + 1) (256 * devices))

-- The first step in this order that has something to do.
abbrev pub next_work : List DeviceState → Work → Option Work
next_work devices last = find (has_work_at devices) (in_turn_after last (length devices))

-- The first step in this order that has something to do and may be made.
abbrev pub next_work_with_lost : List DeviceState → List Bool → Work → Option Work
next_work_with_lost devices lost last = find (can_work_at lost devices) (in_turn_after last (length devices))

-- The first of the steps of this many devices that passes a test, where the step of the number `first` is the one after the last.
abbrev pub next_from : (Work → Bool) → ℕ → ℕ → Option Work
next_from p devices first = find p (steps_between first (256 * devices) ++ steps_between 0 first)

-- No step of any device has something to do.
abbrev pub HaveNoWork : List DeviceState → Type 0
HaveNoWork devices = (dev pick : ℕ) (d : DeviceState) → slice_get devices dev ≡ Some d → pick < 256 → (looked_at d pick ≡ None) × (advanced_at d pick ≡ None)

-- No step of any device has something to do and may be made.
abbrev pub NoneCanWork : List Bool → List DeviceState → Type 0
NoneCanWork lost devices = (dev pick : ℕ) → dev < length devices → pick < 256 → can_work_at lost devices (record { dev = dev; pick = pick }) ≡ false

-- A step without work is idle, and changes nothing, whatever its outcome.
abbrev pub IdleWithoutWork : Type 0
IdleWithoutWork = (m : MachineState) (dev pick : ℕ) (d : DeviceState) (o : Outcome) (r : Reply) (after : MachineState) → slice_get m.devices dev ≡ Some d → looked_at d pick ≡ None → advanced_at d pick ≡ None
    → IsStep m (Step dev pick) o r after → (r ≡ Idle) × (after ≡ m)

-- A queue of a device is not notified.
pub record IsNotNotified (m : MachineState) (dev number : ℕ) : Type 0 where
  pub device : DeviceState
  pub there : slice_get m.devices dev ≡ Some device
  pub queue : Queue
  pub has : queue_at device.registers number ≡ Some queue
  pub quiet : queue.is_notified ≡ false

-- A step with work makes progress: its reply is not `Idle`, or the queue of its pick is no longer notified after it.
abbrev pub WorkGetsOn : Type 0
WorkGetsOn = (m : MachineState) (w : Work) (o : Outcome) (r : Reply) (after : MachineState) → IsSound m → has_work_at m.devices w ≡ true
    → IsStep m (Step w.dev w.pick) o r after → (r ≢ Idle) ⊎ IsNotNotified after w.dev w.pick
