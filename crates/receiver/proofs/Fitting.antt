-- The items of some devices, one device after another.
use Rattle.std.proofs.Common.{◌≡◌, ℕ, ◌+◌, ◌*◌, ◌≤◌, List, ◌++◌, map, drop}
use Rattle.machine.specs.Layout.{firsts_from, size_from}
use Rattle.machine.specs.Shapes.{sector_count}
use Rattle.machine.specs.declared.shape.Shape.{Shape}

-- The numbers of the items, device by device.
pub record IsNumbered (pages : ℕ) (shapes : List Shape) (i : ℕ) (firsts : List ℕ) (first : ℕ) : Type 0 where
  pub firsts_are : firsts ++ firsts_from first (map sector_count (drop i shapes)) ≡ firsts_from pages (map sector_count shapes)
  pub size_is : size_from first (map sector_count (drop i shapes)) ≡ size_from pages (map sector_count shapes)
  pub few : first ≤ 4294967295 + 4294967295 * i
