-- What an effect does not touch stays, what it touches is there, and the shape of the machine stays.
use Rattle.std.proofs.Common.{◌≡◌, ◌≢◌, ℕ, zero, suc, ◌+◌, ◌-◌, ◌*◌, ◌/◌, ◌<◌, ◌≤◌, ◌⊎◌, inl, inr, List, [], ◌∷◌, ◌++◌, length, take, drop, map, set, Option, Some, None, refl, ap, sym, ◌∙◌, subst, arith}
use Rattle.std.proofs.lemmas.Bool.{cases_lt}
use Rattle.std.proofs.lemmas.List.{length-set, drop-set-lt, drop-set-add, take-set-le}
use Rattle.std.specs.List.{slice_get, All}
use Rattle.guestmem.specs.Among.{Among}
use Rattle.guestmem.specs.Item.{Item, page, sector}
use Rattle.guestmem.specs.Page.{page_of}
use Rattle.guestmem.specs.Writes.{Write, set_all, touched}
use Rattle.guestmem.proofs.WriteLaws.{length-set_all}
use Rattle.blk.specs.Sectors.{Sector}
use Rattle.machine.specs.State.{MachineState, DeviceState}
use Rattle.machine.specs.Effect.{SectorSet, Replacement, set_on, sectors_set, replaced_in}
use Rattle.machine.specs.EffectLaws.{UntouchedStays, TouchedExists, ShapeStays, HasItem, MayReplace, sector_on}
use Rattle.machine.specs.Shapes.{made_as}

-- Lists of items: what is among one of two, and what is among a map.
among_left : (is js : List Item) (i : Item) → Among is i → Among (is ++ js) i
among_left [] js i h = absurd h
among_left (k ∷ is) js i (inl e) = inl e
among_left (k ∷ is) js i (inr h) = inr (among_left is js i h)

among_right : (is js : List Item) (i : Item) → Among js i → Among (is ++ js) i
among_right [] js i h = h
among_right (k ∷ is) js i h = inr (among_right is js i h)

among_either : (is js : List Item) (i : Item) → Among (is ++ js) i → Among is i ⊎ Among js i
among_either [] js i h = inr h
among_either (k ∷ is) js i (inl e) = inl (inl e)
among_either (k ∷ is) js i (inr h) = elim (among_either is js i h) as (λ _. Among (k ∷ is) i ⊎ Among js i) [ inl x ↦ inl (inr x) | inr y ↦ inr y ]

-- A part of a list that a setting does not reach stays.
set_behind : (k w i : ℕ) (xs : List ℕ) (b : ℕ) → w ≤ i → take w (drop k (set xs (k + i) b)) ≡ take w (drop k xs)
set_behind k w i xs b past = rw drop-set-add (take-set-le w (drop k xs) i b past)

part_stays : (k w : ℕ) (xs : List ℕ) (at b : ℕ) → (at < k) ⊎ (k + w ≤ at) → take w (drop k (set xs at b)) ≡ take w (drop k xs)
part_stays k w xs at b (inl before) = rw (drop-set-lt k xs at b before) refl
part_stays k w xs at b (inr behind) =
    let i : ℕ = at - k in
    let is : at ≡ k + i = omega (arith, behind) in
    rw is (set_behind k w i xs b (omega (arith, behind)))

around : (n at : ℕ) → n ≢ at / 4096 → (at < 4096 * n) ⊎ (4096 * n + 4096 ≤ at)
around n at other = elim (cases_lt at (4096 * n)) as (λ _. (at < 4096 * n) ⊎ (4096 * n + 4096 ≤ at)) [
  | inl before ↦ inl before
  | inr from ↦ inr (omega (arith, from, other))
]

-- A page that is not touched stays.
page_stays : (ram : List ℕ) (ws : List Write) (n : ℕ) → (Among (touched ws) (page n) → ⊥) → page_of (set_all ram ws) n ≡ page_of ram n
page_stays ram [] n far = refl
page_stays ram (w ∷ ws) n far =
    let other : n ≢ w.index / 4096 = λ e. far (inl (ap page e)) in
    page_stays (set ram w.index w.byte) ws n (λ h. far (inr h)) ∙ part_stays (4096 * n) 4096 ram w.index w.byte (around n w.index other)

slice_get-set_other : {A : Type 0} (xs : List A) (i j : ℕ) (x : A) → j ≢ i → slice_get (set xs i x) j ≡ slice_get xs j
slice_get-set_other [] i j x other = refl
slice_get-set_other (y ∷ xs) zero zero x other = absurd (other refl)
slice_get-set_other (y ∷ xs) zero (suc j) x other = refl
slice_get-set_other (y ∷ xs) (suc i) zero x other = refl
slice_get-set_other (y ∷ xs) (suc i) (suc j) x other = slice_get-set_other xs i j x (λ e. other (ap suc e))

slice_get-set_same : {A : Type 0} (xs : List A) (i : ℕ) (old x : A) → slice_get xs i ≡ Some old → slice_get (set xs i x) i ≡ Some x
slice_get-set_same [] i old x there = cc
slice_get-set_same (y ∷ xs) zero old x there = refl
slice_get-set_same (y ∷ xs) (suc i) old x there = slice_get-set_same xs i old x there

same_or_other : (a b : ℕ) → (a ≡ b) ⊎ (a ≢ b)
same_or_other a b = elim (cases_lt a b) as (λ _. (a ≡ b) ⊎ (a ≢ b)) [
  | inl less ↦ inr (λ e. omega (arith, less, e))
  | inr from ↦ elim (cases_lt b a) as (λ _. (a ≡ b) ⊎ (a ≢ b)) [ inl more ↦ inr (λ e. omega (arith, more, e)) | inr to ↦ inl (omega (arith, from, to)) ]
]

-- A sector that is not set stays, by one setting.
one_stays : (disks : List (List Sector)) (s : SectorSet) (found : Option (List Sector)) (dev n : ℕ) → slice_get disks s.device ≡ found → (sector dev n ≡ sector s.device s.number → ⊥)
    → sector_on (slice_get (set_on disks s found) dev) n ≡ sector_on (slice_get disks dev) n
one_stays disks s None dev n is far = refl
one_stays disks s (Some disk) dev n is far =
    elim (same_or_other dev s.device) as (λ _. sector_on (slice_get (set disks s.device (set disk s.number s.content)) dev) n ≡ sector_on (slice_get disks dev) n) [
      | inl here ↦ (let other : n ≢ s.number = λ e. far (ap (λ x. sector x n) here ∙ ap (sector s.device) e) in
          rw (here, slice_get-set_same disks s.device disk (set disk s.number s.content) is, is) (slice_get-set_other disk s.number n s.content other))
      | inr there ↦ ap (λ d. sector_on d n) (slice_get-set_other disks s.device dev (set disk s.number s.content) there)
    ]

sector_stays : (disks : List (List Sector)) (ss : List SectorSet) (dev n : ℕ) → (Among (map (λ (s : SectorSet). sector s.device s.number) ss) (sector dev n) → ⊥)
    → sector_on (slice_get (sectors_set disks ss) dev) n ≡ sector_on (slice_get disks dev) n
sector_stays disks [] dev n far = refl
sector_stays disks (s ∷ ss) dev n far =
    sector_stays (set_on disks s (slice_get disks s.device)) ss dev n (λ h. far (inr h)) ∙ one_stays disks s (slice_get disks s.device) dev n refl (λ e. far (inl e))

pub untouched : UntouchedStays
untouched m e (page n) far = page_stays m.ram e.writes n (λ h. far (among_left (touched e.writes) (map (λ (s : SectorSet). sector s.device s.number) e.sectors) (page n) h))
untouched m e (sector dev n) far = sector_stays m.disks e.sectors dev n (λ h. far (among_right (touched e.writes) (map (λ (s : SectorSet). sector s.device s.number) e.sectors) (sector dev n) h))

page_exists : (m : MachineState) (ws : List Write) (i : Item) → All (λ (w : Write). w.index < length m.ram) ws → Among (touched ws) i → HasItem m i
page_exists m [] i all h = absurd h
page_exists m (w ∷ ws) i all (inl e) = subst (HasItem m) (sym e) (let low : w.index < length m.ram = all 0 w (omega arith) in omega (arith, low))
page_exists m (w ∷ ws) i all (inr h) = page_exists m ws i (λ k d below. all (suc k) d (omega (arith, below))) h

sector_exists : (m : MachineState) (ss : List SectorSet) (i : Item) → All (λ (s : SectorSet). HasItem m (sector s.device s.number)) ss → Among (map (λ (s : SectorSet). sector s.device s.number) ss) i → HasItem m i
sector_exists m [] i all h = absurd h
sector_exists m (s ∷ ss) i all (inl e) = subst (HasItem m) (sym e) (all 0 s (omega arith))
sector_exists m (s ∷ ss) i all (inr h) = sector_exists m ss i (λ k d below. all (suc k) d (omega (arith, below))) h

pub exists : TouchedExists
exists m e within i h = elim (among_either (touched e.writes) (map (λ (s : SectorSet). sector s.device s.number) e.sectors) i h) as (λ _. HasItem m i) [
  | inl x ↦ page_exists m e.writes i within.writes x
  | inr y ↦ sector_exists m e.sectors i within.sectors y
]

shapes_stay : (devices : List DeviceState) (n : ℕ) (old new : DeviceState) → slice_get devices n ≡ Some old → (made_as new.kind) ≡ (made_as old.kind) → map (λ (d : DeviceState). made_as d.kind) (set devices n new) ≡ map (λ (d : DeviceState). made_as d.kind) devices
shapes_stay [] n old new there same = refl
shapes_stay (d ∷ devices) zero old new there same = let is : d ≡ old = cc in ap (λ x. x ∷ map (λ (d : DeviceState). made_as d.kind) devices) (same ∙ sym (ap (λ (d : DeviceState). made_as d.kind) is))
shapes_stay (d ∷ devices) (suc n) old new there same = ap (λ xs. (made_as d.kind) ∷ xs) (shapes_stay devices n old new there same)

pub replaced_shapes : (devices : List DeviceState) (r : Option Replacement) → MayReplace devices r → map (λ (d : DeviceState). made_as d.kind) (replaced_in devices r) ≡ map (λ (d : DeviceState). made_as d.kind) devices
replaced_shapes devices None may = refl
replaced_shapes devices (Some r) may = shapes_stay devices r.number may.0 r.device may.1 may.2

sizes_stay : (disks : List (List Sector)) (n : ℕ) (old new : List Sector) → slice_get disks n ≡ Some old → length new ≡ length old → map length (set disks n new) ≡ map length disks
sizes_stay [] n old new there same = refl
sizes_stay (d ∷ disks) zero old new there same = let is : d ≡ old = cc in ap (λ x. x ∷ map length disks) (same ∙ sym (ap length is))
sizes_stay (d ∷ disks) (suc n) old new there same = ap (λ xs. length d ∷ xs) (sizes_stay disks n old new there same)

size_stays : (disks : List (List Sector)) (s : SectorSet) (found : Option (List Sector)) → slice_get disks s.device ≡ found → map length (set_on disks s found) ≡ map length disks
size_stays disks s None is = refl
size_stays disks s (Some disk) is = sizes_stay disks s.device disk (set disk s.number s.content) is (length-set disk s.number s.content)

pub all_sizes_stay : (disks : List (List Sector)) (ss : List SectorSet) → map length (sectors_set disks ss) ≡ map length disks
all_sizes_stay disks [] = refl
all_sizes_stay disks (s ∷ ss) = all_sizes_stay (set_on disks s (slice_get disks s.device)) ss ∙ size_stays disks s (slice_get disks s.device) refl

pub same_shape : ShapeStays
same_shape m e within = record {
  ram = length-set_all m.ram e.writes;
  devices = replaced_shapes m.devices e.replaced within.replaced;
  disks = all_sizes_stay m.disks e.sectors;
}
