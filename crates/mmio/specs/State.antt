-- The model of the register file of a device in contracts.
use Rattle.std.specs.Prelude.{Option, slice_get, slice_set, ℕ, List, false, length, replicate}
use Rattle.mmio.specs.declared.common.Common.{Common}
use Rattle.mmio.specs.declared.queue.Queue.{Queue}

-- Which device it is and what it offers, which never changes; the registers that exist once per device; and its queues, by
-- their numbers.
pub record Registers : Type 0 where
  pub device_id : ℕ
  -- the feature bits that the device offers
  pub offered : ℕ
  -- the guest-physical address of the first byte of guest memory, and the number of its bytes: inside these lie the areas of a ready
  -- queue
  pub ram_base : ℕ
  pub ram_len : ℕ
  pub common : Common
  pub queues : List Queue

-- A queue to which the driver has not written.
abbrev pub first_queue : Queue
first_queue = record { size = 0; descriptors = 0; driver = 0; device = 0; is_ready = false; is_notified = false }

-- The initial values of the registers that exist once per device, but for ConfigGeneration, which no reset changes.
abbrev pub first_common : ℕ → Common
first_common generation = record {
  status = 0;
  interrupts = 0;
  device_select = 0;
  driver_select = 0;
  features = 0;
  queue_select = 0;
  generation = generation;
}

-- The registers of a new device with `queues` queues, where RAM has `ram_len` bytes from the guest-physical address `ram_base` on.
abbrev pub first_registers : ℕ → ℕ → ℕ → ℕ → ℕ → Registers
first_registers device_id offered queues ram_base ram_len = record {
  device_id = device_id;
  offered = offered;
  ram_base = ram_base;
  ram_len = ram_len;
  common = first_common 0;
  queues = replicate queues first_queue;
}

-- The registers after a reset (VIRTIO 1.2, 2.4): all have their initial values, but for ConfigGeneration, which is kept.
abbrev pub reset_registers : Registers → Registers
reset_registers r = record r {
  common = first_common r.common.generation;
  queues = replicate (length r.queues) first_queue;
}

-- The registers with the common ones replaced, or with one queue replaced.
abbrev pub with_common : Registers → Common → Registers
with_common r c = record r { common = c }

abbrev pub with_queue : Registers → ℕ → Queue → Registers
with_queue r number q = record r { queues = slice_set r.queues number q }

-- The queue with this number, if it exists; and the queue that QueueSel selects, if it exists.
abbrev pub queue_at : Registers → ℕ → Option Queue
queue_at r number = slice_get r.queues number

abbrev pub selected : Registers → Option Queue
selected r = queue_at r r.common.queue_select
