-- What follows for every effect.
use Rattle.std.specs.Prelude.{◌≡◌, ℕ, ◌*◌, ◌<◌, List, length, map, All, Option, Some, None, slice_get, slice_index_or}
use Rattle.guestmem.specs.Among.{Among}
use Rattle.guestmem.specs.Item.{Item, page, sector}
use Rattle.guestmem.specs.Page.{page_of}
use Rattle.blk.specs.Sectors.{Sector}
use Rattle.machine.specs.State.{MachineState, DeviceState}
use Rattle.machine.specs.Effect.{Effect, Replacement, applied, items_of}
use Rattle.machine.specs.Shapes.{made_as, sector_count}
use Rattle.machine.specs.declared.shape.Shape.{Shape}

-- The sectors of a device's disk.
abbrev pub sectors_on : MachineState → ℕ → Option (List Sector)
sectors_on m dev = slice_get m.disks dev

abbrev pub sector_on : Option (List Sector) → ℕ → Option Sector
sector_on None n = None
sector_on (Some disk) n = slice_get disk n

-- An item has the same contents in two machines: the bytes of a page, or the content of a sector.
abbrev pub IsSameItem : MachineState → MachineState → Item → Type 0
IsSameItem m k (page n) = page_of k.ram n ≡ page_of m.ram n
IsSameItem m k (sector dev n) = sector_on (sectors_on k dev) n ≡ sector_on (sectors_on m dev) n

-- An item that an effect does not touch is unchanged.
abbrev pub UntouchedStays : Type 0
UntouchedStays = (m : MachineState) (e : Effect) (i : Item) → ¬ (Among (items_of e) i) → IsSameItem m (applied m e) i

-- The machine has this page or sector.
abbrev pub HasItem : MachineState → Item → Type 0
HasItem m (page n) = 4096 * n < length m.ram
HasItem m (sector dev n) = (content : Sector) × (sector_on (sectors_on m dev) n ≡ Some content)

-- A machine whose devices have these shapes has the sectors that the shapes name.
abbrev pub HasSectorsOf : List Shape → MachineState → Type 0
HasSectorsOf shapes m = (dev n : ℕ) (shape : Shape) → dev < length shapes → shape ≡ slice_index_or shapes dev shape → n < sector_count shape → HasItem m (sector dev n)

-- An effect that a machine can have: it writes inside RAM, sets sectors that exist, and replaces an existing device by one of
-- the same shape.
abbrev pub MayReplace : List DeviceState → Option Replacement → Type 0
MayReplace devices None = Unit {0}
MayReplace devices (Some r) = (old : DeviceState) × (slice_get devices r.number ≡ Some old) × (made_as r.device.kind ≡ made_as old.kind)

pub record IsWithin (m : MachineState) (e : Effect) : Type 0 where
  pub writes : All (λ w. w.index < length m.ram) e.writes
  pub sectors : All (λ s. HasItem m (sector s.device s.number)) e.sectors
  pub replaced : MayReplace m.devices e.replaced

-- What an effect touches exists.
abbrev pub TouchedExists : Type 0
TouchedExists = (m : MachineState) (e : Effect) → IsWithin m e → (i : Item) → Among (items_of e) i → HasItem m i

-- Two machines of the same shape: RAM of the same size, devices of the same shapes in the same order, and disks of the same
-- sizes.
pub record IsSameShape (m k : MachineState) : Type 0 where
  pub ram : length k.ram ≡ length m.ram
  pub devices : map (λ d. made_as d.kind) k.devices ≡ map (λ d. made_as d.kind) m.devices
  pub disks : map length k.disks ≡ map length m.disks

-- An effect keeps the shape of the machine.
abbrev pub ShapeStays : Type 0
ShapeStays = (m : MachineState) (e : Effect) → IsWithin m e → IsSameShape m (applied m e)
