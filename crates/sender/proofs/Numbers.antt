-- The numbering of a machine's items, disk by disk.
use Rattle.std.proofs.Common.{◌≡◌, ℕ, zero, suc, ◌+◌, ◌-◌, ◌*◌, ◌<◌, ◌≤◌, true, false, List, [], ◌∷◌, ◌++◌, length, map, take, drop, get_or, ltb, refl, sym, ap, ◌∙◌, arith}
use Rattle.std.proofs.lemmas.List.{length-map, take_more}
use Rattle.guestmem.specs.Item.{sector}
use Rattle.machine.specs.Shapes.{made_as}
use Rattle.machine.specs.EffectLaws.{HasItem}
use Rattle.machine.specs.Layout.{firsts_from, firsts_of, item_at, layout_by, layout_of, pages_of, sector_from, size_from, size_of}
use Rattle.machine.specs.Seen.{DeviceSeen}
use Rattle.machine.specs.Sound.{IsSound}
use Rattle.machine.specs.State.{DeviceState, MachineState}
use Rattle.machine.specs.declared.machine.TheConstants.{DEVICES_MAX}
use Rattle.machine.specs.declared.shape.Shape.{Shape}
use Rattle.machine.proofs.Numbering.{is_below, is_past, sound_layout}
use Rattle.sender.specs.Items.{AreShapesOf, size_on}
use Rattle.sender.proofs.Disks.{disks_long, sector_there}
use Rattle.sender.proofs.Parts.{all_taken, before_more, first_at}

-- There are as many first numbers as disks, and as many as devices.
pub length-firsts : (sizes : List ℕ) (first : ℕ) → length (firsts_from first sizes) ≡ length sizes
length-firsts [] first = refl
length-firsts (size ∷ sizes) first = ap suc (length-firsts sizes (first + size))

pub sizes_long : (m : MachineState) → IsSound m → length (map length m.disks) ≡ length m.devices
sizes_long m sound = length-map m.disks length ∙ disks_long m sound

pub shapes_long : (m : MachineState) (shapes : List Shape) → shapes ≡ map (λ (d : DeviceState). made_as d.kind) m.devices → length shapes ≡ length m.devices
shapes_long m shapes are = ap length are ∙ length-map m.devices (λ (d : DeviceState). made_as d.kind)

pub few_made : (shapes : List Shape) (ds : List DeviceSeen) → shapes ≡ map (λ (d : DeviceSeen). made_as d.state.kind) ds → length shapes ≤ DEVICES_MAX → length ds ≤ DEVICES_MAX
few_made shapes ds are few = omega (arith, ap length are, length-map ds (λ (d : DeviceSeen). made_as d.state.kind), few)

-- What holds as the disks are gone through: so many are behind, and the next one begins here.
pub record IsAt (m : MachineState) (dev first : ℕ) : Type 0 where
  pub sound : IsSound m
  pub is : first ≡ size_from (pages_of m) (take dev (map length m.disks))
  pub few : first ≤ 4294967295 + 4294967295 * dev

pub at_first : (m : MachineState) (first : ℕ) → IsSound m → first ≡ pages_of m → first ≤ 4294967295 → IsAt m 0 first
at_first m first sound is few = record { sound = sound; is = is; few = omega (arith, few) }

pub at_next : (m : MachineState) (dev first size : ℕ) → IsAt m dev first → dev < length m.devices → size ≡ size_on m dev → size ≤ 4294967295 → IsAt m (dev + 1) (first + size)
at_next m dev first size h below is few =
    let within : dev < length (map length m.disks) = omega (arith, below, sizes_long m h.sound) in
    record {
      sound = h.sound;
      is = rw (h.is, is) (sym (before_more (map length m.disks) (pages_of m) dev within));
      few = omega (arith, h.few, few);
    }

pub at_end : (m : MachineState) (dev first : ℕ) → IsAt m dev first → dev ≡ length m.devices → first ≡ size_of (layout_of m)
at_end m dev first h end =
    let all : take dev (map length m.disks) ≡ map length m.disks = all_taken (map length m.disks) dev (omega (arith, end, sizes_long m h.sound)) in
    h.is ∙ ap (λ sizes. size_from (pages_of m) sizes) all

-- The first numbers, one after another.
pub firsts_more : (m : MachineState) (dev first : ℕ) → IsAt m dev first → dev < length m.devices → take (dev + 1) (firsts_of (layout_of m)) ≡ take dev (firsts_of (layout_of m)) ++ first ∷ []
firsts_more m dev first h below =
    let sizes = map length m.disks in
    let within : dev < length sizes = omega (arith, below, sizes_long m h.sound) in
    let long = length-firsts sizes (pages_of m) in
    take_more (firsts_from (pages_of m) sizes) dev 0 (omega (arith, within, long)) ∙ ap (λ x. take dev (firsts_from (pages_of m) sizes) ++ x ∷ []) (first_at sizes (pages_of m) dev within ∙ sym h.is)

pub firsts_all : (m : MachineState) (dev : ℕ) (firsts : List ℕ) → IsSound m → dev ≡ length m.devices → firsts ≡ take dev (firsts_of (layout_of m)) → firsts ≡ firsts_of (layout_of m)
firsts_all m dev firsts sound end are =
    let long = length-firsts (map length m.disks) (pages_of m) in
    are ∙ all_taken (firsts_of (layout_of m)) dev (omega (arith, end, long, sizes_long m sound))

-- The item of a number, disk by disk.
drop_one : (xs : List ℕ) (dev : ℕ) → dev < length xs → drop dev xs ≡ get_or xs dev 0 ∷ drop (dev + 1) xs
drop_one [] dev below = absurd (omega (arith, below))
drop_one (x ∷ xs) zero below = refl
drop_one (x ∷ xs) (suc dev) below = let e : suc dev + 1 ≡ suc (dev + 1) = omega arith in rw e (drop_one xs dev (omega (arith, below)))

-- The number is not below the first one of the disk, and its item is found from there on.
pub record Seeks (m : MachineState) (number dev first : ℕ) : Type 0 where
  pub at : IsAt m dev first
  pub from : first ≤ number
  pub item : item_at (layout_of m) number ≡ sector_from dev first (drop dev (map length m.disks)) number

pub seeks_first : (m : MachineState) (number first : ℕ) → IsSound m → first ≡ pages_of m → first ≤ 4294967295 → first ≤ number → Seeks m number 0 first
seeks_first m number first sound is few from = record {
  at = at_first m first sound is few;
  from = from;
  item = rw (is, is_past number (pages_of m) (omega (arith, is, from))) refl;
}

pub item_found : (m : MachineState) (number dev first size : ℕ) → Seeks m number dev first → dev < length m.devices → size ≡ size_on m dev → number - first < size → sector dev (number - first) ≡ item_at (layout_of m) number
item_found m number dev first size h below is less =
    let sizes = map length m.disks in
    let within : dev < length sizes = omega (arith, below, sizes_long m h.at.sound) in
    let here : ltb number (first + get_or sizes dev 0) ≡ true = is_below number (first + get_or sizes dev 0) (omega (arith, is, less, h.from)) in
    sym (h.item ∙ rw (drop_one sizes dev within, here) refl)

pub seeks_next : (m : MachineState) (number dev first size : ℕ) → Seeks m number dev first → dev < length m.devices → size ≡ size_on m dev → size ≤ 4294967295 → size ≤ number - first → Seeks m number (dev + 1) (first + size)
seeks_next m number dev first size h below is few past =
    let sizes = map length m.disks in
    let within : dev < length sizes = omega (arith, below, sizes_long m h.at.sound) in
    let here : ltb number (first + get_or sizes dev 0) ≡ false = is_past number (first + get_or sizes dev 0) (omega (arith, is, past, h.from)) in
    record {
      at = at_next m dev first size h.at below is few;
      from = omega (arith, past, h.from);
      item = h.item ∙ rw (drop_one sizes dev within, here, ← is) refl;
    }

pub sector_is_there : (m : MachineState) (dev n size : ℕ) → IsSound m → size ≡ size_on m dev → n < size → HasItem m (sector dev n)
sector_is_there m dev n size sound is below = sector_there m m dev n sound refl (omega (arith, is, below))

pub none_left : (m : MachineState) (number dev first : ℕ) → Seeks m number dev first → dev ≡ length m.devices → number < size_of (layout_of m) → ⊥
none_left m number dev first h end below = omega (arith, at_end m dev first h.at end, h.from, below)

-- The layout of a machine is that of its pages and the shapes of its devices.
pub layout_by_shapes : (pages : ℕ) (shapes : List Shape) (m : MachineState) → AreShapesOf pages shapes m → layout_of m ≡ layout_by pages shapes
layout_by_shapes pages shapes m are = rw (are.pages_are, are.shapes_are) (sound_layout m are.sound)
