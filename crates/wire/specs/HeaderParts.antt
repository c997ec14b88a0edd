-- The shapes at the front of a header, of which a part may still be missing.
use Rattle.std.specs.Prelude.{◌≡◌, ◌<◌, ℕ, List, ◌++◌, length, All, Option, Some, None, Result, Ok, Err}
use Rattle.machine.specs.Sound.{IsSoundShape}
use Rattle.machine.specs.declared.limits.Limits.{Limits}
use Rattle.machine.specs.declared.shape.Shape.{Shape}
use Rattle.wire.specs.Header.{spelled_shape, spelled_shapes}
use Rattle.wire.specs.HeaderFaults.{IsNoShape, IsShapeFor}
use Rattle.wire.specs.declared.header_error.HeaderError.{HeaderError}
use Rattle.wire.specs.declared.header_error.HeaderError.TheVariants.{BadShape, NoMemory}

-- The bytes begin with no whole shape, and with none that is wrong.
pub record ShapeWaits (limits : Limits) (bytes : List ℕ) : Type 0 where
  pub no_shape : (s : Shape) (rest : List ℕ) → IsSoundShape s → ¬ (bytes ≡ spelled_shape s ++ rest)
  pub no_bad : (bad rest : List ℕ) → IsNoShape limits bad → ¬ (bytes ≡ bad ++ rest)

pub record BadFirst (limits : Limits) (bytes : List ℕ) : Type 0 where
  pub bad : List ℕ
  pub more : List ℕ
  pub whole : bytes ≡ bad ++ more
  pub never : IsNoShape limits bad

abbrev pub FirstShape : {X : Type 0} → Limits → (X → List ℕ) → List ℕ → Result (Option (Shape × X)) HeaderError → Type 0
FirstShape limits view bytes (Ok None) = ShapeWaits limits bytes
FirstShape limits view bytes (Ok (Some found)) = IsShapeFor limits found.0 × (bytes ≡ spelled_shape found.0 ++ view found.1)
FirstShape limits view bytes (Err e) = (e ≡ BadShape) × BadFirst limits bytes

-- Fewer than `count` shapes, and the bytes after them.
pub record FewShapes (limits : Limits) (count : ℕ) (bytes : List ℕ) : Type 0 where
  pub shapes : List Shape
  pub rest : List ℕ
  pub fewer : length shapes < count
  pub sound : All (IsShapeFor limits) shapes
  pub whole : bytes ≡ spelled_shapes shapes ++ rest

pub record ShapesWait (limits : Limits) (count : ℕ) (bytes : List ℕ) : Type 0 where
  pub few : FewShapes limits count bytes
  pub waits : ShapeWaits limits few.rest

pub record ShapesBad (limits : Limits) (count : ℕ) (bytes : List ℕ) : Type 0 where
  pub few : FewShapes limits count bytes
  pub bad : BadFirst limits few.rest

pub record ShapesRead (limits : Limits) (count : ℕ) (bytes : List ℕ) (shapes : List Shape) (rest : List ℕ) : Type 0 where
  pub count_is : length shapes ≡ count
  pub sound : All (IsShapeFor limits) shapes
  pub whole : bytes ≡ spelled_shapes shapes ++ rest

abbrev pub OnBad : HeaderError → Type 0 → Type 0
OnBad BadShape F = F
OnBad NoMemory F = Unit {0}
OnBad _ F = ⊥

abbrev pub ReadShapes : {X Y : Type 0} → Limits → (X → List Shape) → (Y → List ℕ) → ℕ → List ℕ → Result (Option (X × Y)) HeaderError → Type 0
ReadShapes limits shapes view count bytes (Ok None) = ShapesWait limits count bytes
ReadShapes limits shapes view count bytes (Ok (Some found)) = ShapesRead limits count bytes (shapes found.0) (view found.1)
ReadShapes limits shapes view count bytes (Err e) = OnBad e (ShapesBad limits count bytes)
