use Rattle.std.specs.Prelude.{◌≡◌, ℕ, ◌+◌, ◌%◌, ◌*◌, ◌<◌, ◌≤◌, Bool}
use Rattle.std.specs.Bool.{MatchBool}
use Rattle.guestmem.specs.Address.{index_of}
use Rattle.mmio.specs.Bits.{has}
use Rattle.mmio.specs.Areas.{driver_alignment, driver_bytes, device_bytes}
use Rattle.mmio.specs.declared.queue.Queue.{Queue}
use Rattle.mmio.specs.declared.constants.TheConstants.{QUEUE_SIZE_MAX, INDIRECT_DESC, EVENT_IDX, RING_PACKED}
use Rattle.chains.specs.declared.descriptor.TheConstants.{DESCRIPTOR_SIZE}
use Rattle.chains.specs.declared.position.Position.{Position}
use Rattle.chains.specs.declared.position.Positions.{Positions}

-- The model of a ring: the base of the RAM that it lies in, its layout, the features that affect it, the size of its queue, the
-- indexes in RAM of the queue's areas, the position of the next chain to take (`taking`), and the position of the next chain to
-- publish (`used`).
pub record RingState : Type 0 where
  pub base : ℕ
  pub is_packed : Bool
  pub has_indirect : Bool
  pub has_event_index : Bool
  pub size : ℕ
  pub descriptors : ℕ
  pub driver : ℕ
  pub device : ℕ
  pub taking : Position
  pub used : Position

-- The ring of a queue with these feature bits (VIRTIO 1.2, 6), in a RAM with this base, at these positions. The driver gives the
-- areas by their guest-physical addresses.
abbrev pub state_of : Queue → ℕ → ℕ → Positions → RingState
state_of queue features base positions = record {
  base = base;
  is_packed = has features RING_PACKED;
  has_indirect = has features INDIRECT_DESC;
  has_event_index = has features EVENT_IDX;
  size = queue.size;
  descriptors = index_of base queue.descriptors;
  driver = index_of base queue.driver;
  device = index_of base queue.device;
  taking = positions.taking;
  used = positions.used;
}

-- No area of a queue begins below this base.
pub record AreAbove (base : ℕ) (queue : Queue) : Type 0 where
  pub descriptors : base ≤ queue.descriptors
  pub driver : base ≤ queue.driver
  pub device : base ≤ queue.device

-- A ring may have this state: it has from 1 to QUEUE_SIZE_MAX slots, and if it is packed both positions are slots of it.
pub record MayRing (q : RingState) : Type 0 where
  pub some : 1 ≤ q.size
  pub few : q.size ≤ QUEUE_SIZE_MAX
  pub slots : MatchBool q.is_packed ((q.taking.place < q.size) × (q.used.place < q.size)) (Unit {0})

-- An area of `bytes` bytes from this index on is aligned to `align`, and lies wholly inside a RAM of `len` bytes.
pub record IsArea (len at align bytes : ℕ) : Type 0 where
  pub aligned : at % align ≡ 0
  pub inside : at + bytes ≤ len

-- The three areas of a queue are aligned (VIRTIO 1.2, 2.7 and 2.8.10.1), and lie inside a RAM of `len` bytes.
pub record HasAreas (len : ℕ) (q : RingState) : Type 0 where
  pub descriptors : IsArea len q.descriptors 16 (DESCRIPTOR_SIZE * q.size)
  pub driver : IsArea len q.driver (driver_alignment q.is_packed) (driver_bytes q.is_packed q.size)
  pub device : IsArea len q.device 4 (device_bytes q.is_packed q.size)
