-- A later RAM. The relation goes through any list of writes, so every call that writes RAM promises it. What keeps bytes of a
-- page with its version relies on it: a cache of descriptors, or a host that mirrors RAM.
use Rattle.std.specs.Prelude.{◌≡◌, ℕ, ◌-◌, ◌/◌, ◌^◌, ◌<◌, ◌≤◌, length, slice_index}
use Rattle.guestmem.specs.declared.limits.TheConstants.{PAGE_SIZE}
use Rattle.guestmem.specs.Memory.{Memory}

-- `new` is a later state of the RAM `old`: there are as many bytes and versions, the bytes lie where they lay, no version has
-- decreased, and if the version of a page is unchanged and below 2^64 - 1, the bytes of the page are unchanged.
pub record IsLater (old new : Memory) : Type 0 where
  pub bytes : length new.bytes ≡ length old.bytes
  pub versions : length new.versions ≡ length old.versions
  pub place : new.place ≡ old.place
  pub rises : (n : ℕ) → slice_index old.versions n ≤ slice_index new.versions n
  pub stays : (a : ℕ) → slice_index new.versions (a / PAGE_SIZE) ≡ slice_index old.versions (a / PAGE_SIZE) → slice_index old.versions (a / PAGE_SIZE) < 2 ^ 64 - 1
      → slice_index new.bytes a ≡ slice_index old.bytes a
