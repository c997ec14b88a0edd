-- Machines whose disks are honest.
use Rattle.std.proofs.Common.{List, map, All, IsTrue, refl}
use Rattle.std.proofs.lemmas.List.Elements.{All-map}
use Rattle.blk.specs.Disk.{DiskState}
use Rattle.machine.specs.First.{dealt_marks, marks_in}
use Rattle.machine.specs.Seen.{Marks}
use Rattle.machine.specs.declared.shape.Shape.{Shape}
use Rattle.machine.proofs.Dealing.{dealt_all}

abbrev pub IsHonest : Marks → Type 0
IsHonest m = IsTrue m.honest

pub honest_devices : {D : Type 0} (state : D → DiskState) (shapes : List Shape) (disks : List D) → All (λ d. IsTrue (state d).honest) disks → All IsHonest (dealt_marks shapes (map (λ d. marks_in (state d)) disks))
honest_devices {D} state shapes disks h =
    dealt_all IsHonest refl shapes (map (λ (d : D). marks_in (state d)) disks) (All-map IsHonest (λ (d : D). marks_in (state d)) disks h)

pub honest_dealt : (shapes : List Shape) (marks : List Marks) → All IsHonest marks → All IsHonest (dealt_marks shapes marks)
honest_dealt shapes marks h = dealt_all IsHonest refl shapes marks h
