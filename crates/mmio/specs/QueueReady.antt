-- When a queue may be made ready (VIRTIO 1.2, 4.2.3.2, 2.7, 2.8).
use Rattle.std.specs.Prelude.{◌≡◌, ℕ, ◌*◌, ◌%◌, ◌≤◌, ◌<◌, ◌==◌, ◌&&◌, ◌||◌, Bool, IsTrue, nat_le, nat_lt}
use Rattle.std.specs.Int.{is_power_of_two}
use Rattle.guestmem.specs.Address.{IsWithin, is_within}
use Rattle.mmio.specs.Areas.{driver_alignment, driver_bytes, device_bytes}
use Rattle.mmio.specs.Bits.{has, Has}
use Rattle.mmio.specs.declared.common.Common.{Common}
use Rattle.mmio.specs.declared.queue.Queue.{Queue}
use Rattle.mmio.specs.declared.constants.TheConstants.{FEATURES_OK, RING_PACKED, QUEUE_SIZE_MAX}

-- An area of `bytes` bytes from the guest-physical address `from` on is aligned to `align`, and lies wholly inside a RAM of `len`
-- bytes, the first of which has the address `base`. No area wraps around below the base or past 2^64.
pub record IsInside (base len from align bytes : ℕ) : Type 0 where
  pub aligned : from % align ≡ 0
  pub within : IsWithin base len from bytes

-- The three areas of a queue of this layout (VIRTIO 1.2, 2.7 and 2.8.10.1).
pub record AreInside (base ram_len : ℕ) (is_packed : Bool) (q : Queue) : Type 0 where
  pub descriptors : IsInside base ram_len q.descriptors 16 (16 * q.size)
  pub driver : IsInside base ram_len q.driver (driver_alignment is_packed) (driver_bytes is_packed q.size)
  pub device : IsInside base ram_len q.device 4 (device_bytes is_packed q.size)

-- A queue may be made ready: FEATURES_OK is set, the size is from 1 to 256, and the areas fit the layout that the driver's features
-- select. The size of a split queue is a power of two (VIRTIO 1.2, 2.7), that of a packed one need not be.
pub record MayBeReady (base ram_len : ℕ) (c : Common) (q : Queue) : Type 0 where
  pub settled : Has c.status FEATURES_OK
  pub some : 0 < q.size
  pub few : q.size ≤ QUEUE_SIZE_MAX
  pub power : ¬ (Has c.features RING_PACKED) → IsTrue (is_power_of_two q.size)
  pub areas : AreInside base ram_len (has c.features RING_PACKED) q

-- The same conditions as a Boolean test, which the definition of register writes uses. The contract of the function
-- `may_be_ready` says that test and conditions agree.
abbrev pub is_inside : ℕ → ℕ → ℕ → ℕ → ℕ → Bool
is_inside base len from align bytes = from % align == 0 && is_within base len from bytes

abbrev pub are_inside : ℕ → ℕ → Bool → Queue → Bool
are_inside base ram_len is_packed q =
    is_inside base ram_len q.descriptors 16 (16 * q.size)
    && is_inside base ram_len q.driver (driver_alignment is_packed) (driver_bytes is_packed q.size)
    && is_inside base ram_len q.device 4 (device_bytes is_packed q.size)

unfoldable pub may_be_ready : ℕ → ℕ → Common → Queue → Bool
may_be_ready base ram_len c q =
    has c.status FEATURES_OK
    && nat_lt 0 q.size
    && nat_le q.size QUEUE_SIZE_MAX
    && (has c.features RING_PACKED || is_power_of_two q.size)
    && are_inside base ram_len (has c.features RING_PACKED) q
