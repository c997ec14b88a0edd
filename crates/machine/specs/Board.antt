-- What the RAM of a machine is made of.
use Rattle.std.specs.Prelude.{ℕ, ◌*◌, List, length, Option, Some, None}
use denote.RawPtr.{Ptr}
use Rattle.guestmem.specs.declared.limits.TheConstants.{PAGE_SIZE}
use Rattle.region.specs.Address.{address}
use Rattle.region.specs.declared.region.Region as regions
use Rattle.machine.specs.First.{zero_pages}
use Rattle.machine.specs.declared.board.RamOf.{RamOf}
use Rattle.machine.specs.declared.board.RamOf.TheVariants.{Pages, Region}

-- How many bytes it has.
abbrev pub ram_size : RamOf → ℕ
ram_size (Pages pages) = PAGE_SIZE * pages
ram_size (Region region) = length region.content

-- Its bytes, as the machine begins.
abbrev pub ram_bytes : RamOf → List ℕ
ram_bytes (Pages pages) = zero_pages pages
ram_bytes (Region region) = region.content

-- Where they lie, if that is memory of the caller.
abbrev pub ram_place : RamOf → Option Ptr
ram_place (Pages pages) = None
ram_place (Region region) = Some (address region)

-- The region that it is, if it is one.
abbrev pub ram_region : RamOf → Option regions.Region
ram_region (Pages pages) = None
ram_region (Region region) = Some region
