-- Invariants of the registers of every device, whatever the driver writes. The registers of a restored device must satisfy
-- them too.
use Rattle.std.specs.Prelude.{ℕ, ◌<◌, ◌≤◌, ◌^◌, IsTrue, All, length}
use Rattle.mmio.specs.Bits.{Has}
use Rattle.mmio.specs.State.{Registers}
use Rattle.mmio.specs.QueueReady.{MayBeReady}
use Rattle.mmio.specs.declared.common.Common.{Common}
use Rattle.mmio.specs.declared.queue.Queue.{Queue}
use Rattle.mmio.specs.declared.constants.TheConstants.{STATUS_BITS, DRIVER_OK, FEATURES_OK, DEVICE_NEEDS_RESET, INTERRUPT_BITS, VERSION_1, QUEUE_COUNT_MAX}

-- Only defined bits of the device status are set. DRIVER_OK is set only if FEATURES_OK is, and DEVICE_NEEDS_RESET only if
-- DRIVER_OK is.
pub record IsStatus (status : ℕ) : Type 0 where
  pub known : Has STATUS_BITS status
  pub driver_ok : Has status DRIVER_OK → Has status FEATURES_OK
  pub needs_reset : Has status DEVICE_NEEDS_RESET → Has status DRIVER_OK

-- Each number fits its register.
pub record FitsCommon (c : Common) : Type 0 where
  pub device_select : c.device_select < 2 ^ 32
  pub driver_select : c.driver_select < 2 ^ 32
  pub features : c.features < 2 ^ 64
  pub queue_select : c.queue_select < 2 ^ 32
  pub generation : c.generation < 2 ^ 32

pub record FitsQueue (q : Queue) : Type 0 where
  pub size : q.size < 2 ^ 32
  pub descriptors : q.descriptors < 2 ^ 64
  pub driver : q.driver < 2 ^ 64
  pub device : q.device < 2 ^ 64

-- If FEATURES_OK is set, the driver's features are among the offered ones and include VERSION_1.
pub record IsSoundCommon (offered : ℕ) (c : Common) : Type 0 where
  pub fits : FitsCommon c
  pub status : IsStatus c.status
  pub interrupts : c.interrupts ≤ INTERRUPT_BITS
  pub offered_only : Has c.status FEATURES_OK → Has offered c.features
  pub version : Has c.status FEATURES_OK → Has c.features VERSION_1

-- Only a ready queue has its notified flag set, and a ready queue satisfies MayBeReady.
pub record IsSoundQueue (base ram_len : ℕ) (c : Common) (q : Queue) : Type 0 where
  pub fits : FitsQueue q
  pub notified : IsTrue q.is_notified → IsTrue q.is_ready
  pub ready : IsTrue q.is_ready → MayBeReady base ram_len c q

pub record IsSoundRegisters (r : Registers) : Type 0 where
  pub device_id : r.device_id < 2 ^ 32
  pub offered : r.offered < 2 ^ 64
  pub ram_base : r.ram_base < 2 ^ 64
  pub ram_len : r.ram_len < 2 ^ 64
  pub few : length r.queues ≤ QUEUE_COUNT_MAX
  pub common : IsSoundCommon r.offered r.common
  pub queues : All (IsSoundQueue r.ram_base r.ram_len r.common) r.queues
