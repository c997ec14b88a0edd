-- The numbering of a machine's items: each has a number of its own below their count.
use Rattle.std.proofs.Common.{◌≡◌, ℕ, zero, suc, ◌+◌, ◌-◌, ◌*◌, ◌/◌, ◌<◌, ◌≤◌, ◌⊎◌, inl, inr, Bool, true, false, List, [], ◌∷◌, length, map, get_or, ltb, Option, Some, None, refl, ap, ◌∙◌, arith}
use Rattle.std.specs.Prelude.{slice_get}
use borrow.Author.Tests.{ltb-true, ltb-false}
use Rattle.guestmem.specs.Item.{Item, page, sector}
use Rattle.machine.specs.EffectLaws.{HasItem, IsSameShape, sector_on}
use Rattle.machine.specs.Layout.{Layout, IsItemIn, layout_by, layout_of, pages_of, firsts_from, size_from, size_of, number_of, sector_from, item_at}
use Rattle.machine.specs.Shapes.{made_as, sector_count}
use Rattle.machine.specs.Sound.{IsSound}
use Rattle.blk.specs.Sectors.{Sector}
use Rattle.machine.specs.State.{DeviceState, MachineState}

pub either_way : (b : Bool) → (b ≡ true) ⊎ (b ≡ false)
either_way true = inl refl
either_way false = inr refl

below-ltb : (a b : ℕ) (t : Bool) → ltb a b ≡ t → a < b → t ≡ true
below-ltb a b true is below = refl
below-ltb a b false is below = let past = ltb-false a b is in absurd (omega (arith, past, below))

past-ltb : (a b : ℕ) (t : Bool) → ltb a b ≡ t → b ≤ a → t ≡ false
past-ltb a b false is past = refl
past-ltb a b true is past = let below = ltb-true a b is in absurd (omega (arith, past, below))

pub is_below : (a b : ℕ) → a < b → ltb a b ≡ true
is_below a b below = below-ltb a b (ltb a b) refl below

pub is_past : (a b : ℕ) → b ≤ a → ltb a b ≡ false
is_past a b past = past-ltb a b (ltb a b) refl past

-- The item of a number has that number.
record IsFrom (dev first : ℕ) (sizes : List ℕ) (i : ℕ) : Type 0 where
  place : ℕ
  rest : ℕ
  within : rest < get_or sizes place 0
  is : sector_from dev first sizes i ≡ sector (dev + place) rest
  back : get_or (firsts_from first sizes) place 0 + rest ≡ i

from_back : (sizes : List ℕ) (dev first i : ℕ) → first ≤ i → i < size_from first sizes → IsFrom dev first sizes i
from_back [] dev first i from below = absurd (omega (arith, from, below))
from_back (size ∷ sizes) dev first i from below =
    elim (either_way (ltb i (first + size))) as (λ _. IsFrom dev first (size ∷ sizes) i) [
      | inl here ↦
          let less = ltb-true i (first + size) here in
          let e : dev + 0 ≡ dev = omega arith in
          record { place = 0; rest = i - first; within = omega (arith, from, less); is = rw (here, e) refl; back = omega (arith, from) }
      | inr past ↦
          let more : first + size ≤ i = ltb-false i (first + size) past in
          let h = from_back sizes (dev + 1) (first + size) i more below in
          let e : dev + suc h.place ≡ dev + 1 + h.place = omega arith in
          record { place = suc h.place; rest = h.rest; within = h.within; is = rw (past, e) h.is; back = h.back }
    ]

pub number_back : (l : Layout) (i : ℕ) → i < size_of l → number_of l (item_at l i) ≡ i
number_back l i below =
    elim (either_way (ltb i l.pages)) as (λ _. number_of l (item_at l i) ≡ i) [
      | inl here ↦ rw here refl
      | inr past ↦
          let h = from_back l.disks 0 l.pages i (ltb-false i l.pages past) below in
          let e : 0 + h.place ≡ h.place = omega arith in
          rw (past, h.is, e) h.back
    ]

-- Each number below the count is that of an item.
pub item_there : (l : Layout) (i : ℕ) → i < size_of l → IsItemIn l (item_at l i)
item_there l i below =
    elim (either_way (ltb i l.pages)) as (λ _. IsItemIn l (item_at l i)) [
      | inl here ↦ rw here (ltb-true i l.pages here)
      | inr past ↦
          let h = from_back l.disks 0 l.pages i (ltb-false i l.pages past) below in
          let e : 0 + h.place ≡ h.place = omega arith in
          rw (past, h.is, e) h.within
    ]

-- Each item has a number, and is the item of it.
pub size_grows : (sizes : List ℕ) (first : ℕ) → first ≤ size_from first sizes
size_grows [] first = omega arith
size_grows (size ∷ sizes) first = let h = size_grows sizes (first + size) in omega (arith, h)

record IsPlaced (sizes : List ℕ) (base first dev n : ℕ) : Type 0 where
  from : first ≤ get_or (firsts_from first sizes) dev 0 + n
  below : get_or (firsts_from first sizes) dev 0 + n < size_from first sizes
  back : sector_from base first sizes (get_or (firsts_from first sizes) dev 0 + n) ≡ sector (base + dev) n

placed : (sizes : List ℕ) (base first dev n : ℕ) → n < get_or sizes dev 0 → IsPlaced sizes base first dev n
placed [] base first dev n within = absurd (omega (arith, within))
placed (s ∷ sizes) base first zero n within =
    let more = size_grows sizes (first + s) in
    let less : first + n < first + s = omega (arith, within) in
    let e : first + n - first ≡ n = omega arith in
    let z : base + 0 ≡ base = omega arith in
    record { from = omega arith; below = omega (arith, more, less); back = rw (is_below (first + n) (first + s) less, e, z) refl }
placed (s ∷ sizes) base first (suc dev) n within =
    let h = placed sizes (base + 1) (first + s) dev n within in
    let e : base + suc dev ≡ base + 1 + dev = omega arith in
    record {
      from = omega (arith, h.from);
      below = h.below;
      back = rw (is_past (get_or (firsts_from (first + s) sizes) dev 0 + n) (first + s) h.from, e) h.back;
    }

pub number_below : (l : Layout) (i : Item) → IsItemIn l i → number_of l i < size_of l
number_below l (page n) has = let h = size_grows l.disks l.pages in omega (arith, h, has)
number_below l (sector dev n) has = (placed l.disks 0 l.pages dev n has).below

pub item_back : (l : Layout) (i : Item) → IsItemIn l i → item_at l (number_of l i) ≡ i
item_back l (page n) has = rw (is_below n l.pages has) refl
item_back l (sector dev n) has =
    let h = placed l.disks 0 l.pages dev n has in
    let e : 0 + dev ≡ dev = omega arith in
    rw (is_past (get_or (firsts_from l.pages l.disks) dev 0 + n) l.pages h.from) (h.back ∙ ap (λ k. sector k n) e)

-- The items of a layout are those of its machine.
length_at : (disks : List (List Sector)) (dev : ℕ) (disk : List Sector) → slice_get disks dev ≡ Some disk → get_or (map length disks) dev 0 ≡ length disk
length_at [] dev disk there = cc
length_at (d ∷ disks) zero disk there = let same : d ≡ disk = cc in rw same refl
length_at (d ∷ disks) (suc dev) disk there = length_at disks dev disk there

within_get : (disk : List Sector) (n : ℕ) (content : Sector) → slice_get disk n ≡ Some content → n < length disk
within_get [] n content there = cc
within_get (x ∷ disk) zero content there = omega arith
within_get (x ∷ disk) (suc n) content there = let h = within_get disk n content there in omega (arith, h)

within_by : (disks : List (List Sector)) (found : Option (List Sector)) (dev n : ℕ) (content : Sector) → slice_get disks dev ≡ found → sector_on found n ≡ Some content → n < get_or (map length disks) dev 0
within_by disks None dev n content is there = cc
within_by disks (Some disk) dev n content is there = rw (length_at disks dev disk is) (within_get disk n content there)

pub in_layout : (m : MachineState) (i : Item) → length m.ram ≡ 4096 * pages_of m → HasItem m i → IsItemIn (layout_of m) i
in_layout m (page n) whole has = omega (arith, whole, has)
in_layout m (sector dev n) whole has = within_by m.disks (slice_get m.disks dev) dev n has.0 refl has.1

get_within : (disk : List Sector) (n : ℕ) → n < length disk → (content : Sector) × (slice_get disk n ≡ Some content)
get_within [] n below = absurd (omega (arith, below))
get_within (x ∷ disk) zero below = (x, refl)
get_within (x ∷ disk) (suc n) below = get_within disk n (omega (arith, below))

sector_there : (disks : List (List Sector)) (dev n : ℕ) → n < get_or (map length disks) dev 0 → (content : Sector) × (sector_on (slice_get disks dev) n ≡ Some content)
sector_there [] dev n within = absurd (omega (arith, within))
sector_there (d ∷ disks) zero n within = get_within d n within
sector_there (d ∷ disks) (suc dev) n within = sector_there disks dev n within

pub has_item : (m : MachineState) (i : Item) → length m.ram ≡ 4096 * pages_of m → IsItemIn (layout_of m) i → HasItem m i
has_item m (page n) whole has = omega (arith, whole, has)
has_item m (sector dev n) whole has = sector_there m.disks dev n has

-- Machines of one shape have their items in one numbering.
layouts : (a b : ℕ) (c d : List ℕ) → a ≡ b → c ≡ d → ◌≡◌ {A = Layout} (record { pages = a; disks = c }) (record { pages = b; disks = d })
layouts a b c d e f = rw (e, f) refl

pub same_layout : (m k : MachineState) → IsSameShape m k → layout_of k ≡ layout_of m
same_layout m k h = layouts (pages_of k) (pages_of m) (map length k.disks) (map length m.disks) (ap (λ n. n / 4096) h.ram) h.disks

-- The layout of a sound machine is that of its pages and devices.
pub shape_counts : (ds : List DeviceState) → map (λ (d : DeviceState). sector_count (made_as d.kind)) ds ≡ map sector_count (map (λ (d : DeviceState). made_as d.kind) ds)
shape_counts [] = refl
shape_counts (d ∷ ds) = ap (λ xs. sector_count (made_as d.kind) ∷ xs) (shape_counts ds)

pub sound_layout : (m : MachineState) → IsSound m → layout_of m ≡ layout_by (pages_of m) (map (λ (d : DeviceState). made_as d.kind) m.devices)
sound_layout m sound = layouts (pages_of m) (pages_of m) (map length m.disks) (map sector_count (map (λ (d : DeviceState). made_as d.kind) m.devices)) refl (sound.disks ∙ shape_counts m.devices)
