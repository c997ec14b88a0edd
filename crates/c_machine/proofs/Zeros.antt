-- Machines over disks of zeros.
use Rattle.std.proofs.Common.{◌≡◌, ℕ, zero, suc, List, [], ◌∷◌, refl, ap, map, replicate}
use Rattle.std.specs.Prelude.{Option, Some, None}
use Rattle.machine.specs.First.{dealt, dealt_marks, given, left_over}
use Rattle.machine.specs.Seen.{Marks, no_marks}
use Rattle.machine.specs.Shapes.{disk_size_of}
use Rattle.machine.specs.declared.shape.Shape.{Shape}
use Rattle.c_machine.specs.Making.{zero_sectors}

all_good : {A B : Type 0} (f : A → B) (n : ℕ) (x : A) → map f (replicate n x) ≡ replicate n (f x)
all_good f zero x = refl
all_good f (suc n) x = ap (λ (l : List _). f x ∷ l) (all_good f n x)

-- What is known of disks that are honest and steady, and never failed.
abbrev pub plain_marks : List Shape → List Marks
plain_marks shapes = map (λ s. no_marks) shapes

abbrev pub zeros : ℕ → List (List ℕ)
zeros n = replicate n (replicate 512 0)

pub good_zeros : (sizes : List ℕ) → map (λ (d : List (List ℕ)). map Some d) (map zeros sizes) ≡ map zero_sectors sizes
good_zeros [] = refl
good_zeros (n ∷ sizes) = let sector : List ℕ = replicate 512 0 in rw (all_good Some n sector, good_zeros sizes) refl

-- Whatever is dealt of what is all alike is that.
alike_by : {D : Type 0} (size : Option ℕ) (shapes : List Shape) (disks : List D)
    → ((rest : List D) → dealt no_marks shapes (map (λ (d : D). no_marks) rest) ≡ plain_marks shapes)
    → ◌≡◌ {A = List Marks} (given no_marks size (map (λ (d : D). no_marks) disks) ∷ dealt no_marks shapes (left_over size (map (λ (d : D). no_marks) disks))) (no_marks ∷ plain_marks shapes)
alike_by None shapes disks rest = ap (λ (l : List Marks). no_marks ∷ l) (rest disks)
alike_by (Some n) shapes [] rest = ap (λ (l : List Marks). no_marks ∷ l) (rest [])
alike_by (Some n) shapes (d ∷ disks) rest = ap (λ (l : List Marks). no_marks ∷ l) (rest disks)

pub alike : {D : Type 0} (shapes : List Shape) (disks : List D) → dealt_marks shapes (map (λ (d : D). no_marks) disks) ≡ plain_marks shapes
alike [] disks = refl
alike (shape ∷ shapes) disks = alike_by (disk_size_of shape) shapes disks (alike shapes)
