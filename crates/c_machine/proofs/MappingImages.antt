-- Machines whose disks lie in memory of the caller.
use Rattle.std.proofs.Common.{◌≡◌, ◌≤◌, ◌<◌, ◌==◌, ◌+◌, ◌-◌, ◌++◌, ℕ, List, [], ◌∷◌, refl, sym, ap, ◌∙◌, subst, arith, map, length, drop, get_or, take}
use Prim.Native.Nat.{zero, suc}
use Rattle.std.specs.Prelude.{All, Option, Some, slice_set}
use Rattle.std.proofs.lemmas.List.{drop-set-lt, drop_all, drop_more, length-drop, take_all, take_more, take_more_set, length-set}
use Rattle.std.proofs.lemmas.List.Elements.{All-append}
use Rattle.machine.proofs.Disks.{none_left}
use Rattle.machine.specs.First.{are_same}
use Rattle.machine.specs.Shapes.{disk_sizes}
use Rattle.mapped_disk.specs.declared.image.Image.{Image}
use Rattle.c_machine.specs.Making.{shapes_of}
use Rattle.c_machine.specs.Mapping.{AreTaken, contents, counts}
use Rattle.c_machine.specs.declared.device_shape.DeviceShape.{DeviceShape}
use Rattle.c_machine.proofs.Imaging.{same_numbers}

-- Past the last device all images must have been counted.
pub all_counted : (shapes : List DeviceShape) (images : List Image) (i at : ℕ) → length shapes ≤ i → at ≤ length images
    → (at == length images) ≡ are_same (disk_sizes (shapes_of (drop i shapes))) (counts (drop at images))
all_counted shapes images i at past within =
    let rest : List Image = drop at images in
    let left : length rest ≡ length images - at = length-drop at images in
    rw (drop_all i shapes past)
    (same_numbers at (length images) (length rest) 0 (λ e. omega (arith, e, left, within)) (λ e. omega (arith, e, left, within))
    ∙ sym (none_left (λ (k : Image). length k.content) [] 0 rest (omega arith)))

-- One more image is taken.
all_one : (none : Image) → none.content ≡ [] → All (λ (i : Image). i.content ≡ []) (none ∷ [])
all_one none empty zero d less = empty
all_one none empty (suc k) d less = absurd (let few : suc k < 1 = less in omega (arith, few))

pub taken_more : (images : List Image) (at : ℕ) (none : Image) → at < length images → none.content ≡ [] → All (λ (i : Image). i.content ≡ []) (take at images)
    → All (λ (i : Image). i.content ≡ []) (take (at + 1) (slice_set images at none))
taken_more images at none below empty so_far =
    rw (take_more_set images at none below)
    (All-append (λ (i : Image). i.content ≡ []) (take at images) (none ∷ []) so_far (all_one none empty))

pub left_more : (images old : List Image) (at : ℕ) (i none : Image) → at < length images → at < length old → drop at images ≡ drop at old → drop (at + 1) (slice_set images at none) ≡ drop (at + 1) old
left_more images old at i none below there so_far =
    let both : get_or images at i ∷ drop (at + 1) images ≡ get_or old at i ∷ drop (at + 1) old = sym (drop_more images at i below) ∙ so_far ∙ drop_more old at i there in
    let rest : drop (at + 1) images ≡ drop (at + 1) old = cc in
    drop-set-lt (at + 1) images at none (omega arith) ∙ rest

pub disks_more : (images old : List Image) (at : ℕ) (i d : Image) (disks : List Image) → at < length images → at < length old → drop at images ≡ drop at old → i ≡ get_or images at d
    → disks ≡ take at old → disks ++ i ∷ [] ≡ take (at + 1) old
disks_more images old at i d disks below there so_far is made =
    let both : get_or images at d ∷ drop (at + 1) images ≡ get_or old at d ∷ drop (at + 1) old = sym (drop_more images at d below) ∙ so_far ∙ drop_more old at d there in
    let same : get_or images at d ≡ get_or old at d = cc in
    rw (is, same, made) (sym (take_more old at d there))

pub all_taken : (old images : List Image) (at : ℕ) → length images ≡ length old → length old ≤ at → All (λ (i : Image). i.content ≡ []) (take at images) → AreTaken old images
all_taken old images at size past empty = record {
  count = size;
  empty = subst (All (λ (i : Image). i.content ≡ [])) (take_all at images (omega (arith, size, past))) empty;
}

-- The images go back into the slots, one after another: the rest of the disks is that of the images from here on.
pub record IsGivenSoFar (all rest old images : List Image) (at : ℕ) : Type 0 where
  pub size : length images ≡ length all
  pub within : at ≤ length images
  pub put : take at images ≡ take at all
  pub left : rest ≡ drop at all
  pub slots : drop at images ≡ drop at old

pub none_given : (all old : List Image) → length old ≡ length all → IsGivenSoFar all all old old 0
none_given all old size = record { size = size; within = omega arith; put = refl; left = refl; slots = refl }

pub given_below : (all rest next old images : List Image) (at : ℕ) (one : Image) → rest ≡ one ∷ next → IsGivenSoFar all rest old images at → at < length images
given_below all rest next old images at one is so =
    let many : length (drop at all) ≡ suc (length next) = ap length (sym so.left ∙ is) in
    let count : length (drop at all) ≡ length all - at = length-drop at all in
    omega (arith, many, count, so.size)

pub given_more : (all rest next old images : List Image) (at : ℕ) (one : Image) → length old ≡ length all → rest ≡ one ∷ next → IsGivenSoFar all rest old images at
    → IsGivenSoFar all next old (slice_set images at one) (at + 1)
given_more all rest next old images at one count is so =
    let below : at < length images = given_below all rest next old images at one is so in
    let there : at < length all = omega (arith, below, so.size) in
    let both : one ∷ next ≡ get_or all at one ∷ drop (at + 1) all = sym is ∙ so.left ∙ drop_more all at one there in
    let first : one ≡ get_or all at one = cc in
    let rest : next ≡ drop (at + 1) all = cc in
    let long : length (slice_set images at one) ≡ length images = length-set images at one in
    record {
      size = long ∙ so.size;
      within = omega (arith, long, below);
      put = take_more_set images at one below ∙ ap (λ (l : List Image). l ++ one ∷ []) so.put ∙ ap (λ (i : Image). take at all ++ i ∷ []) first ∙ sym (take_more all at one there);
      left = rest;
      slots = left_more images old at one one below (omega (arith, there, count)) so.slots;
    }

pub all_given : (all rest old images : List Image) (at : ℕ) → rest ≡ [] → IsGivenSoFar all rest old images at → images ≡ all
all_given all rest old images at none so =
    let nothing : length (drop at all) ≡ 0 = ap length (sym so.left ∙ none) in
    let count : length (drop at all) ≡ length all - at = length-drop at all in
    sym (take_all at images (omega (arith, nothing, count, so.size))) ∙ so.put ∙ take_all at all (omega (arith, nothing, count))

-- A slot that was taken is of no sectors.
pub empty_slot : (all old images : List Image) (at : ℕ) (d : Image) → AreTaken all old → at < length images → length images ≡ length all → drop at images ≡ drop at old → (get_or images at d).content ≡ []
empty_slot all old images at d taken below size slots =
    let there : at < length old = omega (arith, below, size, taken.count) in
    let both : get_or images at d ∷ drop (at + 1) images ≡ get_or old at d ∷ drop (at + 1) old = sym (drop_more images at d below) ∙ slots ∙ drop_more old at d there in
    let same : get_or images at d ≡ get_or old at d = cc in
    rw same (taken.empty at d there)

-- The first machine over disks in images.
pub disks_good : (images : List Image) → map (λ (d : Image). map Some d.content) images ≡ map (map Some) (contents images)
disks_good [] = refl
disks_good (i ∷ images) = ap (λ (l : List (List (Option (List ℕ)))). map Some i.content ∷ l) (disks_good images)
