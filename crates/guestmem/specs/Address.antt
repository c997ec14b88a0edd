-- What a guest-physical address means. RAM lies at the guest's addresses from its base on: an address means the byte of RAM that is
-- as far behind the first one as the address is behind the base. Below the base and past the end of RAM there is nothing.
use Rattle.std.specs.Prelude.{ℕ, ◌+◌, ◌-◌, ◌^◌, ◌<◌, ◌≤◌, ◌&&◌, Bool, nat_le, nat_lt, Option, Some, None, if◌then◌else◌}
use Rattle.guestmem.specs.declared.error.RamError.{RamError}
use Rattle.guestmem.specs.declared.error.RamError.TheVariants.{OutOfRam, TooLong}
use Rattle.guestmem.specs.declared.limits.TheConstants.{ACCESS_MAX}

-- The index in RAM of the byte at an address: RAM is one flat list of bytes, whose indexes begin at 0.
abbrev pub index_of : ℕ → ℕ → ℕ
index_of base address = address - base

-- `count` bytes from an address on lie inside a RAM of `len` bytes with this base. An access of no bytes may be at the end, if there is
-- such an address: they have 64 bits.
pub record IsWithin (base len address count : ℕ) : Type 0 where
  pub exists : address < 2 ^ 64
  pub above : base ≤ address
  pub below : address + count ≤ base + len

-- The same as a Boolean test.
abbrev pub is_within : ℕ → ℕ → ℕ → ℕ → Bool
is_within base len address count = nat_lt address (2 ^ 64) && nat_le base address && nat_le (address + count) (base + len)

-- Why an access of `count` bytes at an address is refused, if it is. TooLong comes before OutOfRam.
abbrev pub access_refusal : ℕ → ℕ → ℕ → ℕ → Option RamError
access_refusal base len address count = if nat_lt ACCESS_MAX count then Some TooLong else if is_within base len address count then None else Some OutOfRam
