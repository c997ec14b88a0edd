-- The bytes of a RAM, wherever they lie.
use Rattle.std.specs.Prelude.{ℕ, List, Option, None, Some}
use denote.RawPtr.{Ptr}
use Rattle.region.specs.Address.{address}
use Rattle.guestmem.specs.declared.storage.Place.{Place}
use Rattle.guestmem.specs.declared.storage.Place.TheVariants.{Own, Callers}

-- The model of a storage in contracts: the bytes, and where they lie, if that is memory of the caller.
pub record Stored : Type 0 where
  pub bytes : List ℕ
  pub place : Option Ptr

abbrev pub stored_in : Place → Stored
stored_in (Own bytes) = record { bytes = bytes.items; place = None }
stored_in (Callers region) = record { bytes = region.content; place = Some (address region) }
