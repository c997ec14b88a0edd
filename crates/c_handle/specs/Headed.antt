-- The header at the beginning of bytes, and disks of the sizes that it says.
use Rattle.std.specs.Prelude.{◌≡◌, ◌⊎◌, ◌++◌, ◌∷◌, [], ℕ, List}
use Rattle.machine.specs.Limits.{AreWithin}
use Rattle.machine.specs.Shapes.{disk_sizes}
use Rattle.machine.specs.declared.limits.Limits.{Limits}
use Rattle.wire.specs.Header.{Begins, Opening}

-- The bytes begin with a header of a machine within the limits, and the disks are of the sizes that it says.
pub record HasHeader (limits : Limits) (bytes sizes : List ℕ) : Type 0 where
  pub opening : Opening
  pub rest : List ℕ
  pub begins : Begins bytes opening rest
  pub within : AreWithin limits opening.pages opening.shapes
  pub sizes_are : sizes ≡ disk_sizes opening.shapes

abbrev pub HasNoHeader : List ℕ → Type 0
HasNoHeader bytes = (opening : Opening) (rest : List ℕ) → ¬ (Begins bytes opening rest)

-- If they begin with one, it ends with their last byte.
pub record EndsHeader (bytes : List ℕ) : Type 0 where
  pub front : List ℕ
  pub last : ℕ
  pub whole : bytes ≡ front ++ (last ∷ [])
  pub none : HasNoHeader front

-- They begin with none of a machine within the limits.
abbrev pub HasNoneWithin : Limits → List ℕ → Type 0
HasNoneWithin limits bytes = (opening : Opening) (rest : List ℕ) → AreWithin limits opening.pages opening.shapes → ¬ (Begins bytes opening rest)

-- Disks are of the sizes that the header says, if the bytes begin with one.
abbrev pub AreFitting : Limits → List ℕ → List ℕ → Type 0
AreFitting limits bytes sizes = HasHeader limits bytes sizes ⊎ HasNoneWithin limits bytes
