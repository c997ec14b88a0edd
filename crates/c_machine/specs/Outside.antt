-- How many sectors disks outside have.
use Rattle.std.specs.Prelude.{ℕ, List, [], ◌∷◌, max}
use Rattle.machine.specs.declared.shape.Shape.{Shape}
use Rattle.machine.specs.declared.shape.Shape.TheVariants.{Net, LongNet, Block, Outside, Console, Entropy}

-- Those of a disk outside; 0 of a device without one.
abbrev pub sectors_outside : Shape → ℕ
sectors_outside (Outside sectors read_only id) = sectors
sectors_outside (Net mac) = 0
sectors_outside (LongNet mac longest) = 0
sectors_outside (Block sectors read_only id) = 0
sectors_outside Console = 0
sectors_outside Entropy = 0

-- Those of the largest; 0 where there is none.
abbrev pub largest_outside : List Shape → ℕ
largest_outside [] = 0
largest_outside (shape ∷ shapes) = max (sectors_outside shape) (largest_outside shapes)
