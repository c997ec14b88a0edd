-- The machine that a setup asks for, and the box in which it lies.
use Rattle.std.proofs.Common.{◌≡◌, ℕ, Bool, true, false, List, refl, sym, ap, ◌∙◌, subst, map}
use Rattle.std.specs.Prelude.{None, Some, length, not, ◌==◌}
use Rattle.blk.specs.Sectors.{Sector}
use Rattle.machine.specs.First.{dealt_marks, made_machine}
use Rattle.machine.specs.Seen.{Seen, all_marks, no_marks, state_of}
use Rattle.machine.specs.Sound.{IsSound}
use Rattle.machine.specs.declared.shape.Shape.{Shape}
use Rattle.mapped_disk.specs.declared.image.Image.{Image}
use Rattle.c_machine.specs.Made.{AreOwnDisks, IsFirstOf, first_place, first_ram, has_images}
use Rattle.c_machine.specs.Making.{shapes_of}
use Rattle.c_machine.specs.Mapping.{contents}
use Rattle.c_machine.specs.declared.setup.Setup.{Setup}
use Rattle.c_handle.specs.Kept.{IsNew, KeptSeen, Still}
use Rattle.c_handle.specs.Made.{IsMachineOf, places_of}
use Rattle.c_machine.proofs.MadeOf.{first_of}
use Rattle.c_machine.proofs.MappingImages.{disks_good}

machine_in : (s : Setup) (k : KeptSeen) (m : Seen) (images : Bool) → has_images s ≡ images → IsNew images s.flags (places_of s) s.block s.calls_from k → k.state ≡ Still m → k.telling ≡ None → IsFirstOf s m → IsMachineOf s k
machine_in s k m images has new idle none_told first = record { machine = m; new = subst (λ (b : Bool). IsNew b s.flags (places_of s) s.block s.calls_from k) (sym has) new; is_idle = idle; not_arriving = none_told; is_first = first }

-- What was made, and the box in which it lies.
pub made_own : (s : Setup) (k kept : KeptSeen) (m : Seen) (shapes again twice : List Shape) (disks : List (List (List ℕ))) → k ≡ kept → IsNew false s.flags (places_of s) s.block s.calls_from kept → kept.state ≡ Still m → kept.telling ≡ None → (length s.images.now == 0) ≡ true
    → shapes ≡ shapes_of s.shapes.now → again ≡ shapes → twice ≡ shapes → AreOwnDisks s.contents.now again disks → state_of m ≡ made_machine s.base (first_ram s.pages s.ram) twice (map (λ (d : List (List ℕ)). map Some d) disks)
    → m.memory.place ≡ first_place s.ram → all_marks m ≡ dealt_marks twice (map (λ (d : List (List ℕ)). no_marks) disks) → IsSound (state_of m) → IsMachineOf s k
made_own s k kept m shapes again twice disks is new idle none_told none asked same also own first place marks sound =
    let all : twice ≡ shapes_of s.shapes.now = also ∙ asked in
    let are : AreOwnDisks s.contents.now (shapes_of s.shapes.now) disks = subst (λ (l : List Shape). AreOwnDisks s.contents.now l disks) (same ∙ asked) own in
    subst (λ (x : KeptSeen). IsMachineOf s x) (sym is) (machine_in s kept m false (ap not none) new idle none_told (first_of s m twice disks disks false (ap not none) all are first place marks sound))

pub made_mapped : (s : Setup) (k kept : KeptSeen) (m : Seen) (shapes again : List Shape) (images : List Image) → k ≡ kept → IsNew true s.flags (places_of s) s.block s.calls_from kept → kept.state ≡ Still m → kept.telling ≡ None → (length s.images.now == 0) ≡ false
    → shapes ≡ shapes_of s.shapes.now → again ≡ shapes → images ≡ s.images.now → state_of m ≡ made_machine s.base (first_ram s.pages s.ram) again (map (λ (d : Image). map Some d.content) images)
    → m.memory.place ≡ first_place s.ram → all_marks m ≡ dealt_marks again (map (λ (d : Image). no_marks) images) → IsSound (state_of m) → IsMachineOf s k
made_mapped s k kept m shapes again images is new idle none_told some asked same are first place marks sound =
    let all : again ≡ shapes_of s.shapes.now = same ∙ asked in
    let disks : map (λ (d : Image). map Some d.content) images ≡ map (map Some) (contents s.images.now) = disks_good images ∙ ap (λ (l : List Image). map (map Some) (contents l)) are in
    let made : state_of m ≡ made_machine s.base (first_ram s.pages s.ram) again (map (map Some) (contents s.images.now)) = first ∙ ap (λ (l : List (List Sector)). made_machine s.base (first_ram s.pages s.ram) again l) disks in
    subst (λ (x : KeptSeen). IsMachineOf s x) (sym is) (machine_in s kept m true (ap not some) new idle none_told (first_of s m again (contents s.images.now) images true (ap not some) all refl made place marks sound))
