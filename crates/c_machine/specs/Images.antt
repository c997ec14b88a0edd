-- Disks whose sectors the caller gives.
use Rattle.std.specs.Prelude.{◌≡◌, ℕ, ◌+◌, ◌*◌, List, [], ◌∷◌, All, length, map}
use Rattle.std.specs.List.{concat, flat_map}
use Rattle.blk.specs.Disk.{AreSectors}
use Rattle.machine.specs.Shapes.{sector_count}
use Rattle.machine.specs.declared.shape.Shape.{Shape}

-- How many sectors the disks of these devices have, and how many bytes: a sector is 512.
abbrev pub sectors_in : List Shape → ℕ
sectors_in [] = 0
sectors_in (shape ∷ shapes) = sector_count shape + sectors_in shapes

abbrev pub image_size : List Shape → ℕ
image_size shapes = 512 * sectors_in shapes

-- Disks of these sizes whose sectors, of 512 bytes each, are the images, one after another.
pub record AreImages (images sizes : List ℕ) (disks : List (List (List ℕ))) : Type 0 where
  pub sizes_are : map length disks ≡ sizes
  pub sectors : All AreSectors disks
  pub bytes : flat_map concat disks ≡ images
