-- What arrives over images in memory of the caller, before its first piece.
use Rattle.std.specs.Prelude.{◌≡◌, ℕ, List, [], length, map, Option}
use denote.RawPtr.{Ptr}
use Rattle.blk.specs.Disk.{DiskState}
use Rattle.receiver.specs.declared.ram_terms.RamTerms.{RamTerms}
use Rattle.receiver.specs.Receiving.{HasBeenFed, Received}
use Rattle.mapped_disk.specs.declared.image.Image.{Image}
use Rattle.c_handle.specs.ArrivalSeen.{ArrivalSeen, Over}
use Rattle.c_handle.specs.Kept.{State, Arriving}
use Rattle.c_machine.specs.Plain.{mem_state}

-- What a disk over an image means.
abbrev pub image_state : Image → DiskState
image_state i = mem_state i.content

-- Nothing was fed, these are the terms of RAM, the disks hold these sectors, and RAM will lie in this place, if one is known.
pub record IsFreshOver (ram : RamTerms) (place : Option Ptr) (sectors : List (List (List ℕ))) (r : Received) : Type 0 where
  pub fed : HasBeenFed r []
  pub ram_is : r.ram ≡ ram
  pub sizes_are : r.sizes ≡ map length sectors
  pub disks_are : map (λ d. d.sectors) r.disks ≡ sectors
  pub place_is : r.place ≡ place

abbrev pub IsAwaitedAt : RamTerms → Option Ptr → List (List (List ℕ)) → ArrivalSeen → Type 0
IsAwaitedAt ram place sectors (Over r) = IsFreshOver ram place sectors r
IsAwaitedAt ram place sectors _ = ⊥

abbrev pub IsAwaitedIn : RamTerms → Option Ptr → List (List (List ℕ)) → State → Type 0
IsAwaitedIn ram place sectors (Arriving a) = IsAwaitedAt ram place sectors a
IsAwaitedIn ram place sectors _ = ⊥

-- The disks of an arrival hold these sectors.
abbrev pub AreDisksOf : ArrivalSeen → List (List (List ℕ)) → Type 0
AreDisksOf (Over r) sectors = map (λ d. d.sectors) r.disks ≡ sectors
AreDisksOf _ sectors = ⊥
