use Rattle.std.specs.Prelude.{ℕ, List, [], ◌∷◌, ◌++◌, map, Option, Some, None, slice_get, slice_set}
use Rattle.guestmem.specs.Writes.{Write, set_all, touched}
use Rattle.guestmem.specs.Item.{Item, sector}
use Rattle.blk.specs.Sectors.{Sector}
use Rattle.blk.specs.Move as blk
use Rattle.machine.specs.State.{DeviceState, MachineState}

-- A sector that is set: its bytes, or none where it becomes bad.
pub record SectorSet : Type 0 where
  pub device : ℕ
  pub number : ℕ
  pub content : Sector

-- The sectors that are set on the disk of the device of this number.
abbrev pub sets_on : ℕ → List blk.SectorSet → List SectorSet
sets_on device sets = map (λ s. record { device = device; number = s.number; content = s.content }) sets

-- A device that replaces the one with this number.
pub record Replacement : Type 0 where
  pub number : ℕ
  pub device : DeviceState

-- What one step changes: bytes of RAM, sectors, and at most one device.
pub record Effect : Type 0 where
  pub writes : List Write
  pub sectors : List SectorSet
  pub replaced : Option Replacement

abbrev pub no_effect : Effect
no_effect = record { writes = []; sectors = []; replaced = None }

abbrev pub replaced_in : List DeviceState → Option Replacement → List DeviceState
replaced_in devices None = devices
replaced_in devices (Some r) = slice_set devices r.number r.device

abbrev pub set_on : List (List Sector) → SectorSet → Option (List Sector) → List (List Sector)
set_on disks s None = disks
set_on disks s (Some disk) = slice_set disks s.device (slice_set disk s.number s.content)

abbrev pub sectors_set : List (List Sector) → List SectorSet → List (List Sector)
sectors_set disks [] = disks
sectors_set disks (s ∷ ss) = sectors_set (set_on disks s (slice_get disks s.device)) ss

-- A machine after an effect.
abbrev pub applied : MachineState → Effect → MachineState
applied m e = record {
  ram = set_all m.ram e.writes;
  devices = replaced_in m.devices e.replaced;
  disks = sectors_set m.disks e.sectors;
}

-- The pages and sectors that an effect writes into, even where it writes what was there already.
abbrev pub items_of : Effect → List Item
items_of e = touched e.writes ++ map (λ s. sector s.device s.number) e.sectors
