-- One unit of a request (VIRTIO 1.2, 5.2.6).
use Rattle.std.specs.Prelude.{◌≡◌, ℕ, ◌+◌, ◌*◌, ◌<◌, Bool, true, false, not, List, [], ◌∷◌, ◌++◌, take, drop, map, replicate, slice_set, Some, None, IsTrue, if◌then◌else◌}
use Rattle.guestmem.specs.Item.{Item, sector}
use Rattle.guestmem.specs.Memory.{Memory}
use Rattle.guestmem.specs.Rises.{Touches}
use Rattle.guestmem.specs.Writes.{Write, set_all, touched}
use Rattle.chains.specs.Places.{places, read_places, place_writes}
use Rattle.blk.specs.Sectors.{IsGiven, Sector, SectorsState, sector_in, is_bad, bytes_of}
use Rattle.blk.specs.Request.{next_sector}
use Rattle.blk.specs.declared.disk.TheConstants.{SECTOR_SIZE}
use Rattle.blk.specs.declared.request.TheConstants.{HEADER_SIZE}
use Rattle.blk.specs.declared.shape.TheConstants.{ID_SIZE}
use Rattle.blk.specs.declared.request.Kind.{Kind}
use Rattle.blk.specs.declared.request.Kind.TheVariants as kind
use Rattle.blk.specs.declared.request.Verdict.TheVariants.{IoError}
use Rattle.blk.specs.declared.request.Request.{Request}
use Rattle.blk.specs.declared.advancing.Advanced.{Advanced}
use Rattle.blk.specs.declared.advancing.Advanced.TheVariants.{Moved, BadSector, DiskFailed}

-- A change of a sector: its new bytes, or None if it becomes bad.
pub record SectorSet : Type 0 where
  pub number : ℕ
  pub content : Sector

abbrev pub sectors_set : List Sector → List SectorSet → List Sector
sectors_set content [] = content
sectors_set content (s ∷ ss) = sectors_set (slice_set content s.number s.content) ss

-- The items of sectors that are set, on the disk of the device with this number.
abbrev pub sectors_touched : ℕ → List SectorSet → List Item
sectors_touched device sets = map (λ s. sector device s.number) sets

-- What one unit of a request returns and changes: its answer, the request, writes of RAM, and sectors that are set.
pub record Move : Type 0 where
  pub answer : Advanced
  pub request : Request
  pub writes : List Write
  pub sets : List SectorSet

abbrev pub one_done : Request → Request
one_done r = record r { done = r.done + 1 }

abbrev pub failed : Request → Request
failed r = record r { verdict = IoError }

abbrev pub moved : Request → List Write → List SectorSet → Move
moved r writes sets = record { answer = Moved; request = one_done r; writes = writes; sets = sets }

-- A call of the disk failed: nothing is moved, and the request ends with an error.
abbrev pub disk_failed : Request → List SectorSet → Move
disk_failed r sets = record { answer = DiskFailed; request = failed r; writes = []; sets = sets }

-- The sector is bad: the disk is not called, and the request ends with an error.
abbrev pub bad_sector : Request → Move
bad_sector r = record { answer = BadSector; request = failed r; writes = []; sets = [] }

-- The bytes of a sector are written to the writable places of its unit, in a RAM with this base. A bad sector is not read.
abbrev pub move_in : ℕ → List Sector → Request → Bool → Move
move_in base content r is_fine =
    if is_bad (sector_in content (next_sector r)) then bad_sector r
    else if is_fine then moved r (place_writes base (take SECTOR_SIZE (drop (SECTOR_SIZE * r.done) (places r.writable))) (bytes_of (sector_in content (next_sector r)))) []
    else disk_failed r []

-- The bytes at the readable places of a unit, which come after the header.
abbrev pub unit_bytes : ℕ → List ℕ → Request → List ℕ
unit_bytes base ram r = take SECTOR_SIZE (drop (HEADER_SIZE + SECTOR_SIZE * r.done) (read_places base ram (places r.readable)))

-- These bytes are written to the sector of a unit. If the write fails the sector becomes bad.
abbrev pub write_unit : List ℕ → Request → Bool → Move
write_unit bytes r is_fine =
    if is_fine then moved r [] (record { number = next_sector r; content = Some bytes } ∷ [])
    else disk_failed r (record { number = next_sector r; content = None } ∷ [])

-- The bytes of a unit are written to its sector.
abbrev pub move_out : ℕ → List ℕ → Request → Bool → Move
move_out base ram r is_fine = write_unit (unit_bytes base ram r) r is_fine

-- The sector of a unit is cleared: zeros are written to it.
abbrev pub move_zero : Request → Bool → Move
move_zero r is_fine = write_unit (replicate SECTOR_SIZE 0) r is_fine

abbrev pub move_flush : Request → Bool → Move
move_flush r is_fine = if is_fine then moved r [] [] else disk_failed r []

-- The id of the device is written to the first writable places.
abbrev pub move_id : ℕ → List ℕ → Request → Move
move_id base id r = moved r (place_writes base (take ID_SIZE (places r.writable)) id) []

-- One unit of a request, by its kind, in a RAM with this base.
abbrev pub move_of : Kind → ℕ → List ℕ → List ℕ → List Sector → Request → Bool → Move
move_of kind.In base id ram content r is_fine = move_in base content r is_fine
move_of kind.Out base id ram content r is_fine = move_out base ram r is_fine
move_of kind.Flush base id ram content r is_fine = move_flush r is_fine
move_of kind.GetId base id ram content r is_fine = move_id base id r
move_of kind.Refused base id ram content r is_fine = moved r [] []
move_of kind.Zero base id ram content r is_fine = move_zero r is_fine

-- Whether the disk failed, by the answer.
abbrev pub is_disk_failed : Advanced → Bool
is_disk_failed DiskFailed = true
is_disk_failed _ = false

-- Whether the sector was bad, by the answer.
abbrev pub is_bad_sector : Advanced → Bool
is_bad_sector BadSector = true
is_bad_sector _ = false

-- The request after one unit, by the answer.
abbrev pub after_unit : Request → Advanced → Request
after_unit r Moved = one_done r
after_unit r BadSector = failed r
after_unit r DiskFailed = failed r
after_unit r _ = r

-- Each of these changes makes its sector bad.
abbrev pub AreMadeBad : List SectorSet → Type 0
AreMadeBad [] = Unit {0}
AreMadeBad (s ∷ ss) = (is_bad s.content ≡ true) × AreMadeBad ss

-- The sectors of a disk after some were set. For any disk it is known which ones are bad, and, if all changes make sectors
-- bad, what the sectors hold. What a write leaves is known if the disk is honest.
pub record AreSet (honest : Bool) (content : List Sector) (sets : List SectorSet) (new_content : List Sector) : Type 0 where
  pub bad : map is_bad new_content ≡ map is_bad (sectors_set content sets)
  pub unwritten : AreMadeBad sets → new_content ≡ sectors_set content sets
  pub is : IsTrue honest → new_content ≡ sectors_set content sets

-- Such a move was made, with the sectors as the disk returned them. What touching is, as that a log has taken the items in, `touches`
-- says.
pub record IsMoved (touches : List Item → Type 0) (honest : Bool) (device : ℕ) (ram : List ℕ) (content : List Sector) (move : List Sector → Move) (answer : Advanced) (new_request : Request) (new_ram : List ℕ) (new_content : List Sector) : Type 0 where
  pub given : List Sector
  pub is_given : IsGiven honest content given
  pub answer_is : answer ≡ (move given).answer
  pub request_is : new_request ≡ (move given).request
  pub ram_is : new_ram ≡ set_all ram (move given).writes
  pub content_is : AreSet honest content (move given).sets new_content
  pub items_are : touches (touched (move given).writes ++ sectors_touched device (move given).sets)

-- What a unit finds, or leaves: RAM, a log, the sectors of the disk, and the request.
pub record UnitScene (L : Type 0) : Type 0 where
  pub ram : Memory
  pub log : L
  pub sectors : SectorsState
  pub request : Request

abbrev pub unit_scene : {L : Type 0} → Memory → L → SectorsState → Request → UnitScene L
unit_scene ram log sectors request = record { ram = ram; log = log; sectors = sectors; request = request }

-- A unit was done with this answer, by what it does with the sectors as the disk returned them, the request, and whether a call of the
-- disk succeeds.
abbrev pub HasMoved : {L : Type 0} → (L → Item → L) → ℕ → UnitScene L → UnitScene L → (List Sector → Request → Bool → Move) → Advanced → Type 0
HasMoved after device old new move answer =
    IsMoved (Touches after old.log new.log old.ram new.ram) old.sectors.honest device old.ram.bytes old.sectors.content (λ given. move given old.request (not (is_disk_failed answer))) answer new.request new.ram.bytes new.sectors.content

-- Every sector of a disk of `count` sectors, of the device with this number, may be passed to the log.
abbrev pub MaySectors : {L : Type 0} → (L → Item → Type 0) → L → ℕ → ℕ → Type 0
MaySectors may log device count = (n : ℕ) → n < count → may log (sector device n)
