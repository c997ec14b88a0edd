-- The items of a machine in one numbering: the pages ascending, then the sectors of each disk ascending, in device order.
use Rattle.std.specs.Prelude.{ℕ, ◌<◌, ◌+◌, ◌-◌, ◌/◌, nat_lt, if◌then◌else◌, List, [], ◌∷◌, map, length, slice_index}
use Rattle.guestmem.specs.Item.{Item, page, sector}
use Rattle.machine.specs.Shapes.{sector_count}
use Rattle.machine.specs.State.{MachineState}
use Rattle.machine.specs.declared.shape.Shape.{Shape}

-- How many pages there are, and how many sectors the disk of each device has.
pub record Layout : Type 0 where
  pub pages : ℕ
  pub disks : List ℕ

-- The layout has the item. A device without a disk has no sectors, and neither has a device that does not exist.
abbrev pub IsItemIn : Layout → Item → Type 0
IsItemIn l (page n) = n < l.pages
IsItemIn l (sector dev n) = n < slice_index l.disks dev

-- The layout of a machine of `pages` pages and devices of these shapes.
abbrev pub layout_by : ℕ → List Shape → Layout
layout_by pages shapes = record { pages = pages; disks = map sector_count shapes }

abbrev pub pages_of : MachineState → ℕ
pages_of m = length m.ram / 4096

abbrev pub layout_of : MachineState → Layout
layout_of m = record { pages = pages_of m; disks = map length m.disks }

-- The number of the first sector of each disk, where the first disk begins at the number `first`.
abbrev pub firsts_from : ℕ → List ℕ → List ℕ
firsts_from first [] = []
firsts_from first (size ∷ sizes) = first ∷ firsts_from (first + size) sizes

abbrev pub firsts_of : Layout → List ℕ
firsts_of l = firsts_from l.pages l.disks

-- How many items there are.
abbrev pub size_from : ℕ → List ℕ → ℕ
size_from first [] = first
size_from first (size ∷ sizes) = size_from (first + size) sizes

abbrev pub size_of : Layout → ℕ
size_of l = size_from l.pages l.disks

-- The number of an item, by the numbers of the first sectors.
abbrev pub number_in : List ℕ → Item → ℕ
number_in firsts (page n) = n
number_in firsts (sector dev n) = slice_index firsts dev + n

abbrev pub number_of : Layout → Item → ℕ
number_of l item = number_in (firsts_of l) item

-- The item of a number.
abbrev pub sector_from : ℕ → ℕ → List ℕ → ℕ → Item
sector_from dev first [] i = sector dev (i - first)
sector_from dev first (size ∷ sizes) i = if nat_lt i (first + size) then sector dev (i - first) else sector_from (dev + 1) (first + size) sizes i

abbrev pub item_at : Layout → ℕ → Item
item_at l i = if nat_lt i l.pages then page i else sector_from 0 l.pages l.disks i
