-- Images that the caller has back.
use Rattle.std.proofs.Common.{◌≡◌, ◌≤◌, ◌<◌, ◌==◌, ◌+◌, ◌++◌, ℕ, Bool, true, false, nat_lt, List, [], ◌∷◌, refl, sym, ap, ◌∙◌, subst, arith, map, length, drop, get_or, take, true≢false}
use Prim.Native.Nat.{zero, suc}
use Rattle.std.specs.Prelude.{Option, Some, None, IsSome, ◌&&◌, not, slice_set, if◌then◌else◌}
use Rattle.std.proofs.lemmas.List.{append_assoc, append-nil, drop_more, length-append, length-map, length-set, length-take-le, map-append, take-append-drop, take_more_set}
use Rattle.std.proofs.lemmas.List.Elements.{All-drop, All-map}
use Rattle.blk.specs.Sectors.{Sector, sectors_of}
use Rattle.machine.specs.Seen.{DeviceSeen, Seen}
use Rattle.machine.specs.Shapes.{disk_size_of, disk_sizes, with_size, made_as}
use Rattle.machine.specs.State.{DeviceState}
use Rattle.machine.specs.declared.shape.Shape.{Shape}
use Rattle.mapped_disk.specs.declared.image.Image.{Image}
use Rattle.c_machine.specs.Mapping.{contents, counts}
use Rattle.c_machine.specs.Named.{are_zeros}
use Rattle.c_handle.specs.Unmapping.{AreHandedBack, HasUnmapped, disk_if, disk_in, disks_in, held_by, images_of, slots_refusal}
use Rattle.c_handle.specs.ArrivalSeen.{ArrivalSeen, AtHead, AtBody, Refused, Over}
use Rattle.c_handle.specs.Awaited.{awaited_sizes, is_over}
use Rattle.c_handle.specs.Kept.{Arriving}
use Rattle.c_machine.proofs.Imaging.{eq_of, tested_from}
use Rattle.c_machine.proofs.MappingImages.{left_more}

back_more : (a b : List (List Sector)) (s t : List (List (List ℕ))) → AreHandedBack a s → AreHandedBack b t → AreHandedBack (a ++ b) (s ++ t)
back_more [] b [] t p q = q
back_more [] b (x ∷ s) t p q = absurd p
back_more (d ∷ a) b [] t p q = absurd p
back_more (d ∷ a) b (x ∷ s) t p q = (p.0, back_more a b s t p.1 q)

few_held : (a : List (List Sector)) (s : List (List (List ℕ))) → AreHandedBack a s → length s ≤ length a
few_held [] [] p = omega arith
few_held [] (x ∷ s) p = absurd p
few_held (d ∷ a) [] p = absurd p
few_held (d ∷ a) (x ∷ s) p = let few : length s ≤ length a = few_held a s p.1 in omega (arith, few)

-- A machine is taken apart so far.
pub record IsBackSoFar (all : List (List Sector)) (rest : List DeviceSeen) (old images : List Image) (at : ℕ) : Type 0 where
  pub front : List (List Sector)
  pub parts : front ++ disks_in rest ≡ all
  pub back : AreHandedBack front (contents (take at images))
  pub size : length images ≡ length old
  pub within : at ≤ length images
  pub left : drop at images ≡ drop at old

pub none_yet : (all : List (List Sector)) (rest : List DeviceSeen) (images : List Image) → disks_in rest ≡ all → IsBackSoFar all rest images images 0
none_yet all rest images parts = record { front = []; parts = parts; back = tt; size = refl; within = omega arith; left = refl }

counted_front : (images : List Image) (at : ℕ) → at ≤ length images → length (contents (take at images)) ≡ at
counted_front images at within = length-map (take at images) (λ (i : Image). i.content) ∙ length-take-le at images within

pub there : (all : List (List Sector)) (rest next : List DeviceSeen) (old images : List Image) (at : ℕ) (device : DeviceSeen) (image : Image) → rest ≡ device ∷ next
    → IsBackSoFar all rest old images at → AreHandedBack (disk_in device) (held_by (Some image)) → length all ≤ length old → at < length images
there all rest next old images at device image is so one room =
    let slots = contents (take at images) in
    let few : length (slots ++ image.content ∷ []) ≤ length (so.front ++ disk_in device) = few_held (so.front ++ disk_in device) (slots ++ image.content ∷ []) (back_more so.front (disk_in device) slots (image.content ∷ []) so.back one) in
    let long : length (slots ++ image.content ∷ []) ≡ length slots + 1 = length-append slots (image.content ∷ []) in
    let many : length slots ≡ at = counted_front images at so.within in
    let parts : so.front ++ (disk_in device ++ disks_in next) ≡ all = rw (← ap disks_in is) so.parts in
    let size₁ : length (so.front ++ (disk_in device ++ disks_in next)) ≡ length so.front + length (disk_in device ++ disks_in next) = length-append so.front (disk_in device ++ disks_in next) in
    let size₂ : length (disk_in device ++ disks_in next) ≡ length (disk_in device) + length (disks_in next) = length-append (disk_in device) (disks_in next) in
    let size₃ : length (so.front ++ disk_in device) ≡ length so.front + length (disk_in device) = length-append so.front (disk_in device) in
    let whole : length (so.front ++ (disk_in device ++ disks_in next)) ≡ length all = ap length parts in
    let size : length images ≡ length old = so.size in
    omega (arith, few, long, many, size₁, size₂, size₃, whole, size, room)

parts_more : (all : List (List Sector)) (rest next : List DeviceSeen) (front : List (List Sector)) (device : DeviceSeen) → rest ≡ device ∷ next → front ++ disks_in rest ≡ all
    → (front ++ disk_in device) ++ disks_in next ≡ all
parts_more all rest next front device is parts = append_assoc front (disk_in device) (disks_in next) ∙ ap (λ (l : List DeviceSeen). front ++ disks_in l) (sym is) ∙ parts

pub put_more : (all : List (List Sector)) (rest next : List DeviceSeen) (old images : List Image) (at : ℕ) (device : DeviceSeen) (image : Image) → rest ≡ device ∷ next
    → IsBackSoFar all rest old images at → AreHandedBack (disk_in device) (held_by (Some image)) → length all ≤ length old → IsBackSoFar all next old (slice_set images at image) (at + 1)
put_more all rest next old images at device image is so one room =
    let below : at < length images = there all rest next old images at device image is so one room in
    let size : length images ≡ length old = so.size in
    let slots = contents (take at images) in
    let long : length (slice_set images at image) ≡ length images = length-set images at image in
    let more : contents (take (at + 1) (slice_set images at image)) ≡ slots ++ image.content ∷ [] =
    ap contents (take_more_set images at image below) ∙ map-append (λ (i : Image). i.content) (take at images) (image ∷ []) in
    record {
      front = so.front ++ disk_in device;
      parts = parts_more all rest next so.front device is so.parts;
      back = rw more (back_more so.front (disk_in device) slots (image.content ∷ []) so.back one);
      size = long ∙ so.size;
      within = omega (arith, long, below);
      left = left_more images old at image image below (omega (arith, below, size)) so.left;
    }

pub none_more : (all : List (List Sector)) (rest next : List DeviceSeen) (old images : List Image) (at : ℕ) (device : DeviceSeen) → rest ≡ device ∷ next
    → IsBackSoFar all rest old images at → AreHandedBack (disk_in device) (held_by None) → IsBackSoFar all next old images at
none_more all rest next old images at device is so one =
    let slots = contents (take at images) in
    record {
      front = so.front ++ disk_in device;
      parts = parts_more all rest next so.front device is so.parts;
      back = rw (← append-nil slots) (back_more so.front (disk_in device) slots [] so.back one);
      size = so.size;
      within = so.within;
      left = so.left;
    }

-- What is asked of the slots.
and_both : (a b : Bool) → (a && b) ≡ true → (a ≡ true) × (b ≡ true)
and_both true b is = (refl, is)
and_both false b is = absurd (true≢false (sym is))

empty_of : (c : List (List ℕ)) → length c ≡ 0 → c ≡ []
empty_of [] e = refl
empty_of (x ∷ c) e = absurd cc

pub none_at : (is : List Image) → are_zeros (counts is) ≡ true → (k : ℕ) (d : Image) → k < length is → (get_or is k d).content ≡ []
none_at [] none k d less = absurd (let few : k < 0 = less in omega (arith, few))
none_at (i ∷ is) none zero d less = empty_of i.content (eq_of (length i.content) 0 (and_both (length i.content == 0) (are_zeros (counts is)) none).0)
none_at (i ∷ is) none (suc k) d less = none_at is (and_both (length i.content == 0) (are_zeros (counts is)) none).1 k d (let few : suc k < suc (length is) = less in omega (arith, few))

asked_by : (none short : Bool) → ◌≡◌ {A = Option ℕ} (if not none then Some 15 else if short then Some 11 else None) None → (none ≡ true) × (short ≡ false)
asked_by false short is = absurd cc
asked_by true true is = absurd cc
asked_by true false is = (refl, refl)

pub asked : (disks : ℕ) (images : List Image) → slots_refusal disks images ≡ None → (are_zeros (counts images) ≡ true) × (disks ≤ length images)
asked disks images none =
    let both = asked_by (are_zeros (counts images)) (nat_lt (length images) disks) none in
    (both.0, tested_from (length images) disks both.1)

pub was_empty : (images old : List Image) (at : ℕ) (d : Image) → are_zeros (counts old) ≡ true → at < length images → length images ≡ length old → drop at images ≡ drop at old → (get_or images at d).content ≡ []
was_empty images old at d none below size left =
    let there : at < length old = omega (arith, below, size) in
    let both : get_or images at d ∷ drop (at + 1) images ≡ get_or old at d ∷ drop (at + 1) old = sym (drop_more images at d below) ∙ left ∙ drop_more old at d there in
    let same : get_or images at d ≡ get_or old at d = cc in
    rw same (none_at old none at d there)

pub all_back : (m : Seen) (old images : List Image) (at : ℕ) → are_zeros (counts old) ≡ true → IsBackSoFar (disks_in m.devices) [] old images at → HasUnmapped m old images
all_back m old images at none so = record {
  slots = contents (take at images);
  rest = contents (drop at images);
  back = subst (λ (l : List (List Sector)). AreHandedBack l (contents (take at images))) (sym (append-nil so.front) ∙ so.parts) so.back;
  first = ap contents (sym (take-append-drop at images)) ∙ map-append (λ (i : Image). i.content) (take at images) (drop at images);
  empty = rw so.left (All-map (λ (c : List (List ℕ)). c ≡ []) (λ (i : Image). i.content) (drop at old) (All-drop (λ (i : Image). i.content ≡ []) at old (none_at old none)));
  count = so.size;
}

-- What a device hands back.
back_by : (size : Option ℕ) (content : List Sector) (slot : List (List ℕ)) (bad : List Bool) (image : Image) → IsSome size → content ≡ sectors_of slot bad → image.content ≡ slot
    → AreHandedBack (disk_if size content) (held_by (Some image))
back_by None content slot bad image some are held = absurd (true≢false (sym some))
back_by (Some n) content slot bad image some are held = (record { marks = bad; agrees = rw held are }, tt)

pub one_back : (d : DeviceSeen) (slot : List (List ℕ)) (bad : List Bool) (image : Image) → IsSome (disk_size_of (made_as d.state.kind)) → d.sectors ≡ sectors_of slot bad → image.content ≡ slot
    → AreHandedBack (disk_in d) (held_by (Some image))
one_back d slot bad image some are held = back_by (disk_size_of (made_as d.state.kind)) d.sectors slot bad image some are held

pub no_disk : (d : DeviceSeen) → disk_size_of (made_as d.state.kind) ≡ None → AreHandedBack (disk_in d) (held_by None)
no_disk d none = rw none tt

-- As many devices have a disk as there are sizes of disks.
one_disk : (size : Option ℕ) (s : List Sector) (rest : List (List Sector)) (sizes : List ℕ) → length rest ≡ length sizes → length (disk_if size s ++ rest) ≡ length (with_size size sizes)
one_disk None s rest sizes e = e
one_disk (Some n) s rest sizes e = ap suc e

pub as_many_disks : (devices : List DeviceSeen) → length (disks_in devices) ≡ length (disk_sizes (map (λ (d : DeviceState). made_as d.kind) (map (λ (d : DeviceSeen). d.state) devices)))
as_many_disks [] = refl
as_many_disks (d ∷ devices) = one_disk (disk_size_of (made_as d.state.kind)) d.sectors (disks_in devices) _ (as_many_disks devices)

pub counted : (devices : List DeviceSeen) (shapes : List Shape) (n : ℕ) → shapes ≡ map (λ (d : DeviceState). made_as d.kind) (map (λ (d : DeviceSeen). d.state) devices) → n ≡ length (disk_sizes shapes) → n ≡ length (disks_in devices)
counted devices shapes n are is = is ∙ ap (λ (l : List Shape). length (disk_sizes l)) are ∙ sym (as_many_disks devices)

-- Of a machine whose RAM is lent.
pub parked_disks : (devices : List DeviceSeen) → length (disks_in devices) ≡ length (disk_sizes (map (λ (d : DeviceSeen). made_as d.state.kind) devices))
parked_disks [] = refl
parked_disks (d ∷ devices) = one_disk (disk_size_of (made_as d.state.kind)) d.sectors (disks_in devices) _ (parked_disks devices)

pub counted_parked : (devices : List DeviceSeen) (shapes : List Shape) (n : ℕ) → shapes ≡ map (λ (d : DeviceSeen). made_as d.state.kind) devices → n ≡ length (disk_sizes shapes) → n ≡ length (disks_in devices)
counted_parked devices shapes n are is = is ∙ ap (λ (l : List Shape). length (disk_sizes l)) are ∙ sym (parked_disks devices)

-- Of one that arrives.
pub counted_arriving : (a : ArrivalSeen) (n : ℕ) → (is_over a ≡ true → n ≡ length (awaited_sizes a)) → (is_over a ≡ false → n ≡ 0) → n ≡ images_of (is_over a) (Arriving a)
counted_arriving (AtHead ram place held) n over own = own refl
counted_arriving (AtBody r) n over own = own refl
counted_arriving Refused n over own = own refl
counted_arriving (Over r) n over own = over refl

pub nil_of : (devices : List DeviceSeen) → length devices ≡ 0 → devices ≡ []
nil_of [] e = refl
nil_of (d ∷ devices) e = absurd cc
