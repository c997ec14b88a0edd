-- Where the sectors of the devices are.
use Rattle.std.proofs.Common.{◌≡◌, ℕ, zero, suc, ◌+◌, ◌<◌, List, [], ◌∷◌, length, map, get_or, refl, ap, ◌∙◌, arith}
use Rattle.std.proofs.lemmas.List.{get_or-map, length-map}
use Rattle.blk.specs.Disk.{DiskState}
use Rattle.guestmem.specs.Item as items
use Rattle.machine.specs.Layout.{IsItemIn, firsts_from, layout_by}
use Rattle.machine.specs.Shapes.{disk_sizes, sector_count}
use Rattle.machine.specs.declared.shape.Shape.{Shape}
use Rattle.machine.proofs.Numbering.{number_below}
use Rattle.wire.specs.Records.{Record}
use Rattle.receiver.specs.Fed.{HasRead}
use Rattle.receiver.specs.Spots.{IsSpotIn, IsSpotOf, disks_before}
use Rattle.receiver.specs.Standing.{IsSized}
use Rattle.receiver.specs.declared.intake.Intake.{Intake}
use Rattle.receiver.specs.declared.intake.Spot.{Spot}
use Rattle.receiver.proofs.Sectors.{disk_at}
use Rattle.receiver.specs.Opened.{Opened, opened_layout}

length-firsts : (first : ℕ) (sizes : List ℕ) → length (firsts_from first sizes) ≡ length sizes
length-firsts first [] = refl
length-firsts first (size ∷ sizes) = ap suc (length-firsts (first + size) sizes)

pub dev_below : (shapes : List Shape) (dev n : ℕ) → n < get_or (map sector_count shapes) dev 0 → dev < length shapes
dev_below [] dev n there = absurd (omega (arith, there))
dev_below (shape ∷ shapes) zero n there = omega arith
dev_below (shape ∷ shapes) (suc dev) n there = let h = dev_below shapes dev n there in omega (arith, h)

pub count_at : (shapes : List Shape) (dev n : ℕ) (shape : Shape) → n < get_or (map sector_count shapes) dev 0 → n < sector_count (get_or shapes dev shape)
count_at shapes dev n shape has = omega (arith, has, get_or-map sector_count shapes dev shape 0 (dev_below shapes dev n has))

-- What there is for a sector that a device has.
pub record IsThere (i : Intake) (dev n : ℕ) : Type 0 where
  pub place : dev < length i.shapes.items
  pub firsts : dev < length i.firsts.items
  pub item : get_or i.firsts.items dev 0 + n < length i.named
  pub disk : disks_before i.shapes.items dev < length i.bad.items
  pub mark : n < length (get_or i.bad.items (disks_before i.shapes.items dev) [])

pub there : (i : Intake) (dev n : ℕ) → IsSized i → n < get_or (map sector_count i.shapes.items) dev 0 → IsThere i dev n
there i dev n s has =
    let shapes = i.shapes.items in
    let k = disks_before shapes dev in
    let low = dev_below shapes dev n has in
    let at = disk_at shapes dev n s.sound has in
    let disk : k < length i.bad.items = omega (arith, at.0, ap length s.marks, length-map i.bad.items length) in
    record {
      place = low;
      firsts = omega (arith, low, ap length s.firsts_are, length-firsts s.pages (map sector_count shapes), length-map shapes sector_count);
      item = omega (arith, number_below (layout_by s.pages shapes) (items.sector dev n) has, s.named_size, ap (λ ns. get_or ns dev 0) s.firsts_are);
      disk = disk;
      mark = omega (arith, at.1, ap (λ ns. get_or ns k 0) s.marks, get_or-map length i.bad.items k [] 0 disk);
    }

-- The disk has the sector.
pub on_disk : (sizes : List ℕ) (i : Intake) (dev n k : ℕ) → IsSized i → sizes ≡ disk_sizes i.shapes.items → n < get_or (map sector_count i.shapes.items) dev 0 → k ≡ disks_before i.shapes.items dev → n < get_or sizes k 0
on_disk sizes i dev n k s fits has is =
    let at = disk_at i.shapes.items dev n s.sound has in
    rw is (omega (arith, at.1, ap (λ ns. get_or ns (disks_before i.shapes.items dev) 0) fits))

-- The spot in an intake is that by the header.
pub spot_of : {ds : List DiskState} {opening : Opened} {before : List Record} {i : Intake} {front : List ℕ} (dev n : ℕ) (spot : Spot) → HasRead ds opening before i front → IsSpotIn i dev n spot → IsSpotOf opening dev n spot
spot_of dev n spot h at = record {
  there = rw h.shapes_are at at.there;
  disk = rw h.shapes_are at at.disk;
  item = at.item ∙ ap (λ ns. get_or ns dev 0 + n) h.firsts_are;
}

-- A sector that the intake has not is none by the header.
pub no_spot : {ds : List DiskState} {opening : Opened} {before : List Record} {i : Intake} {front : List ℕ} (dev n : ℕ) → HasRead ds opening before i front → ¬ (n < get_or (map sector_count i.shapes.items) dev 0) → ¬ (IsItemIn (opened_layout opening) (items.sector dev n))
no_spot dev n h never has = never (rw (← h.shapes_are) at has)

pub has_sector : (shapes : List Shape) (dev n : ℕ) (shape : Shape) → dev < length shapes → shape ≡ get_or shapes dev shape → n < sector_count shape → n < get_or (map sector_count shapes) dev 0
has_sector shapes dev n shape below is there = omega (arith, there, ap sector_count is, get_or-map sector_count shapes dev shape 0 below)
