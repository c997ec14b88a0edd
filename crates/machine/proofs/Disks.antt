-- The disks of some devices, one device after another.
use Rattle.std.proofs.Common.{◌≡◌, ℕ, ◌≤◌, List, [], ◌∷◌, length, map, drop, Bool, true, false, refl, ap, sym, ◌∙◌, eqb}
use Prim.Native.Nat.compare
use Rattle.std.specs.Prelude.{◌==◌, ◌&&◌, ◌↔◌, IsTrue}
use Rattle.std.proofs.lemmas.Bool.{eq-eqb, eqb-true}
use Rattle.std.proofs.lemmas.List.{drop_all}
use Rattle.blk.specs.Disk.{DiskState}
use Rattle.machine.specs.First.{are_same}
use Rattle.machine.specs.Shapes.{disk_sizes}
use Rattle.machine.specs.declared.shape.Shape.{Shape}

-- Past the last device all disks must have been dealt.
pub none_left : {A : Type 0} (size : A → ℕ) (shapes : List Shape) (i : ℕ) (rest : List A) → length shapes ≤ i → are_same (disk_sizes (drop i shapes)) (map size rest) ≡ (length rest == 0)
none_left size shapes i [] past = rw (drop_all i shapes past) refl
none_left size shapes i (x ∷ rest) past = rw (drop_all i shapes past, compare.suc-zero (length rest)) refl

-- Two lists of sizes are found the same exactly where they are equal.
sizes_by : (a b : ℕ) (as_ bs : List ℕ) (t : Bool) → eqb a b ≡ t → (t && are_same as_ bs) ≡ true → (a ≡ b) × (are_same as_ bs ≡ true)
sizes_by a b as_ bs true e is = (eqb-true a b e, is)
sizes_by a b as_ bs false e is = cc

pub same_sizes : (as_ bs : List ℕ) → are_same as_ bs ≡ true → as_ ≡ bs
same_sizes [] [] is = refl
same_sizes [] (b ∷ bs) is = cc
same_sizes (a ∷ as_) [] is = cc
same_sizes (a ∷ as_) (b ∷ bs) is =
    let both = sizes_by a b as_ bs (eqb a b) refl is in
    rw (both.0, same_sizes as_ bs both.1) refl

pub same_self : (sizes : List ℕ) → are_same sizes sizes ≡ true
same_self [] = refl
same_self (size ∷ sizes) = rw (eq-eqb size size refl, same_self sizes) refl

same_of : (as_ bs : List ℕ) → bs ≡ as_ → are_same as_ bs ≡ true
same_of as_ bs e = rw e (same_self as_)

-- So an answer tells whether disks are those of the devices.
sizes_mapped : {D : Type 0} (state : D → DiskState) (disks : List D) → map (λ d. length d.sectors) (map state disks) ≡ map (λ d. length (state d).sectors) disks
sizes_mapped state [] = refl
sizes_mapped state (d ∷ disks) = ap (λ ns. length (state d).sectors ∷ ns) (sizes_mapped state disks)

pub fit_where_same : {D : Type 0} (state : D → DiskState) (shapes : List Shape) (disks : List D) (answer : Bool) → answer ≡ are_same (disk_sizes shapes) (map (λ d. length (state d).sectors) disks)
    → IsTrue answer ↔ (map (λ d. length d.sectors) (map state disks) ≡ disk_sizes shapes)
fit_where_same state shapes disks answer told = (
  λ yes. sizes_mapped state disks ∙ sym (same_sizes (disk_sizes shapes) _ (sym told ∙ yes)),
  λ fits. told ∙ same_of (disk_sizes shapes) _ (sym (sizes_mapped state disks) ∙ fits),
)
