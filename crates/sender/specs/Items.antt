-- The records of some of a machine's items, one after another.
use Rattle.std.specs.Prelude.{◌≡◌, ℕ, zero, suc, ◌+◌, List, [], ◌∷◌, ◌++◌, length, map, slice_index, take}
use Rattle.machine.specs.Layout.{item_at, layout_of, pages_of, size_from}
use Rattle.machine.specs.Shapes.{made_as}
use Rattle.machine.specs.Sound.{IsSound}
use Rattle.machine.specs.State.{MachineState}
use Rattle.machine.specs.declared.shape.Shape.{Shape}
use Rattle.wire.specs.Header.{header, opening_of}
use Rattle.wire.specs.Records.{Record}
use Rattle.wire.specs.Stream.{record_of, records_below, shapes_in, texts}

-- The records of n items, from the item with number `first` on.
unfoldable pub records_from : MachineState → ℕ → ℕ → List Record
records_from m first zero = []
records_from m first (suc n) = records_from m first n ++ record_of m (item_at (layout_of m) (first + n)) ∷ []

-- The number of the first sector of a device's disk, and how many sectors the disks of the first `dev` devices have.
abbrev pub first_sector : MachineState → ℕ → ℕ
first_sector m dev = size_from (pages_of m) (take dev (map length m.disks))

abbrev pub sectors_before : MachineState → ℕ → ℕ
sectors_before m dev = size_from 0 (take dev (map length m.disks))

-- The header, and the record of each page.
abbrev pub front_text : MachineState → List ℕ
front_text m = header (opening_of (pages_of m) (shapes_in m.devices)) ++ texts (records_below m (pages_of m))

-- The record of each sector of a device's disk, and of all disks, in order.
abbrev pub size_on : MachineState → ℕ → ℕ
size_on m dev = slice_index (map length m.disks) dev

abbrev pub disk_text : MachineState → ℕ → List ℕ
disk_text m dev = texts (records_from m (first_sector m dev) (size_on m dev))

abbrev pub sectors_text : MachineState → List ℕ
sectors_text m = texts (records_from m (pages_of m) (sectors_before m (length m.disks)))

-- This machine has this many pages, and devices of these shapes.
pub record AreShapesOf (pages : ℕ) (shapes : List Shape) (m : MachineState) : Type 0 where
  pub sound : IsSound m
  pub pages_are : pages ≡ pages_of m
  pub shapes_are : shapes ≡ map (λ d. made_as d.kind) m.devices
