-- Where a sector is: its disk among all disks, and the number of its item.
use Rattle.std.specs.Prelude.{◌≡◌, ◌<◌, ℕ, Bool, true, false, List, ◌+◌, [], count_by, map, length, nat_lt, slice_index_or, slice_set, take, Result, Ok, Err, if◌then◌else◌}
use Rattle.guestmem.specs.Item as items
use Rattle.machine.specs.Layout.{IsItemIn, number_of}
use Rattle.machine.specs.Shapes.{sector_count}
use Rattle.machine.specs.declared.shape.Shape.{Shape}
use Rattle.wire.specs.declared.record_head.RecordHead.{RecordHead}
use Rattle.wire.specs.declared.record_head.RecordHead.TheVariants as heads
use Rattle.receiver.specs.declared.intake.Intake.{Intake}
use Rattle.receiver.specs.declared.intake.Spot.{Spot}
use Rattle.receiver.specs.declared.recv_error.RecvError.{RecvError}
use Rattle.receiver.specs.declared.recv_error.RecvError.TheVariants.{DiskFailed}
use Rattle.receiver.specs.Opened.{Opened, opened_layout}

-- How many of the devices before the index `place` have a disk.
abbrev pub disks_before : List Shape → ℕ → ℕ
disks_before shapes place = count_by (λ shape. nat_lt 0 (sector_count shape)) (take place shapes)

-- The intake has a mark for the sector, and one for the item.
pub record HasMarks (i : Intake) (number : ℕ) (spot : Spot) : Type 0 where
  pub disk : spot.disk < length i.bad.items
  pub sector : number < length (slice_index_or i.bad.items spot.disk [])
  pub item : spot.item < length i.named

-- The device has this sector, and `spot` has the index of its disk among all disks and the number of its item.
pub record IsSpotOf (opening : Opened) (dev number : ℕ) (spot : Spot) : Type 0 where
  pub there : IsItemIn (opened_layout opening) (items.sector dev number)
  pub disk : spot.disk ≡ disks_before opening.shapes dev
  pub item : spot.item ≡ number_of (opened_layout opening) (items.sector dev number)

-- The intake has a sector of this number for this device, and this is where it is.
pub record IsSpotIn (i : Intake) (dev number : ℕ) (spot : Spot) : Type 0 where
  pub there : number < slice_index_or (map sector_count i.shapes.items) dev 0
  pub disk : spot.disk ≡ disks_before i.shapes.items dev
  pub item : spot.item ≡ slice_index_or i.firsts.items dev 0 + number

-- Whether taking the record of a sector has called a disk: a good sector that is whole is written, and a bad one, or one that is not there,
-- is not.
abbrev pub is_disk_failed : RecvError → Bool
is_disk_failed DiskFailed = true
is_disk_failed _ = false

abbrev pub has_written : Bool → Result Bool RecvError → Bool
has_written is_good (Ok took) = if took then is_good else false
has_written is_good (Err e) = is_disk_failed e

-- The counts of the calls of all disks after one more call of this one, or none. `called` is what one more call makes of a count.
abbrev pub called_if : (ℕ → ℕ) → Bool → ℕ → List ℕ → List ℕ
called_if called made disk calls = if made then slice_set calls disk (called (slice_index_or calls disk 0)) else calls

-- A good sector that is taken is one call of its disk, and no other record calls a disk.
abbrev pub CallsOf : (ℕ → ℕ) → RecordHead → List Shape → Result Bool RecvError → List ℕ → List ℕ → Type 0
CallsOf called (heads.Sector dev number true) shapes result old new = new ≡ called_if called (has_written true result) (disks_before shapes dev) old
CallsOf called _ shapes result old new = new ≡ old
