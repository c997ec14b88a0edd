-- Which head of a record may come next, after whole good records, and what comes of the record.
use Rattle.std.specs.Prelude.{◌≡◌, ◌<◌, ◌≤◌, ℕ, ◌+◌, ◌*◌, All, Bool, true, false, List, ◌∷◌, [], ◌++◌, drop, take, map, length, IfOk, OnOk, Result, Ok, Err}
use Rattle.std.specs.Vec.{vec_capacity}
use Rattle.receiver.specs.Sums.{CanSay, Summed, Sums}
use Rattle.wire.specs.DeviceBody.{IsBodyOf}
use Rattle.wire.specs.RecordHeads.{FitsHead, body_len, spelled_head}
use Rattle.wire.specs.Records.{Record, device, record_with, spelled_record}
use Rattle.wire.specs.Stream.{rounds}
use Rattle.wire.specs.declared.record_head.RecordHead.{RecordHead}
use Rattle.wire.specs.declared.record_head.RecordHead.TheVariants as heads
use Rattle.blk.specs.Disk.{DiskState}
use Rattle.guestmem.specs.Item as items
use Rattle.guestmem.specs.Number.{IsBytes}
use Rattle.machine.specs.Layout.{IsItemIn, firsts_of, layout_by, size_of}
use Rattle.machine.specs.Shapes.{disk_sizes}
use Rattle.machine.specs.Sound.{IsSoundShape}
use Rattle.machine.specs.State.{DeviceState}
use Rattle.machine.specs.declared.shape.Shape.{Shape}
use Rattle.receiver.specs.Disks.{AreKept, AreRefused}
use Rattle.receiver.specs.Faults.{IsFault, IsNextHead, Opens}
use Rattle.receiver.specs.Fed.{Ends, HasRead, Tells, TookRecord, Waits}
use Rattle.receiver.specs.declared.intake.Intake.{Intake}
use Rattle.receiver.specs.declared.recv_error.RecvError.{RecvError}
use Rattle.receiver.specs.declared.recv_error.RecvError.TheVariants.{BadPage, BadSector, BadRound, BadDevice, BadDigest, NoMemory}
use Rattle.receiver.specs.Opened.{Opened, opened_layout}

-- The bytes begin with this head, before `rest`, and a record with its tag may come here.
pub record OpensHead (opening : Opened) (before : List Record) (tail : List ℕ) (head : RecordHead) (rest : List ℕ) : Type 0 where
  pub tag : ℕ
  pub more : List ℕ
  pub opens : Opens opening before tail tag more
  pub fits : FitsHead head
  pub whole : tail ≡ spelled_head head ++ rest

-- A head that may come here, as far as its fields tell: the page or the sector is there; the round or the device is the next,
-- and the body is not too long.
abbrev pub MayHead : Opened → List Record → RecordHead → Type 0
MayHead opening before (heads.Page number) = number < opening.pages
MayHead opening before (heads.Sector dev number good) = IsItemIn (opened_layout opening) (items.sector dev number)
MayHead opening before (heads.RoundEnd number) = number ≡ rounds before + 1
MayHead opening before (heads.Device number len) = IsNextHead before number len
MayHead opening before heads.Commit = Unit {0}
MayHead opening before (heads.ZeroPage number) = number < opening.pages

-- The refusal of a head whose fields tell that it may not come here. The digest has no fields.
abbrev pub refusal_of : RecordHead → RecvError
refusal_of (heads.Page number) = BadPage
refusal_of (heads.Sector dev number good) = BadSector
refusal_of (heads.RoundEnd number) = BadRound
refusal_of (heads.Device number len) = BadDevice
refusal_of heads.Commit = BadDigest
refusal_of (heads.ZeroPage number) = BadPage

-- What holds of an intake whatever was fed: its lists are as long as the header says, and the numbers of the first sectors are the
-- header's. There is room for the state of each device.
pub record IsSized (i : Intake) : Type 0 where
  pub pages : ℕ
  pub ram_size : length i.ram.bytes ≡ 4096 * pages
  pub named_size : length i.named ≡ size_of (layout_by pages i.shapes.items)
  pub firsts_are : i.firsts.items ≡ firsts_of (layout_by pages i.shapes.items)
  pub marks : map length i.bad.items ≡ disk_sizes i.shapes.items
  pub sound : All IsSoundShape i.shapes.items
  pub roomy : length i.shapes.items ≤ vec_capacity i.devices

-- Taking a record changes neither the shapes, nor where RAM lies, nor whether the stream has ended.
pub record Keeps (old new : Intake) : Type 0 where
  pub ended : new.ended ≡ old.ended
  pub shapes : new.shapes.items ≡ old.shapes.items
  pub place : new.ram.place ≡ old.ram.place

-- No device of the shape that is next, which is sound at the machine's base and which the version has, has this body.
pub record IsNoBody (opening : Opened) (number : ℕ) (body : List ℕ) : Type 0 where
  pub shape : Shape
  pub others : List Shape
  pub here : drop number opening.shapes ≡ shape ∷ others
  pub never : (d : DeviceState) → ¬ (IsBodyOf opening.version shape opening.ram.base (4096 * opening.pages) body d)

-- The record of this head, before the bytes behind it.
abbrev pub record_behind : RecordHead → List ℕ → Record
record_behind head behind = record_with head (take (body_len head) behind)

-- The record that this head and the bytes behind it make, which begins `tail`, was taken in, waits for its body, or was refused.
abbrev pub Entered : List DiskState → List DiskState → Opened → List Record → Intake → List ℕ → List ℕ → RecordHead → List ℕ → Result Bool RecvError → Type 0
Entered old disks opening before new front tail head behind (Ok true) = AreKept old disks
    × HasRead disks opening (before ++ record_behind head behind ∷ []) new (front ++ spelled_record (record_behind head behind))
Entered old disks opening before new front tail head behind (Ok false) = AreKept old disks × HasRead disks opening before new front × Waits opening before tail
Entered old disks opening before new front tail head behind (Err e) = AreRefused old disks e × Tells e ((place : ℕ) × IsFault opening before tail e place)

-- The same for all bytes that were taken in before.
abbrev pub Enters : List DiskState → List DiskState → Intake → Intake → RecordHead → List ℕ → Result Bool RecvError → Type 0
Enters old disks i new head behind result = (front tail : List ℕ) (opening : Opened) (before : List Record) → IsBytes tail → HasRead old opening before i front
    → OpensHead opening before tail head behind → Entered old disks opening before new front tail head behind result

-- The digest was read, or waits, or is another one.
abbrev pub Closed : List DiskState → Opened → List Record → Intake → List ℕ → List ℕ → Result Bool RecvError → Type 0
Closed disks opening before new front tail (Ok true) = HasRead disks opening before new front × Ends opening before tail
Closed disks opening before new front tail (Ok false) = HasRead disks opening before new front × Waits opening before tail
Closed disks opening before new front tail (Err e) = (e ≡ BadDigest) × ((place : ℕ) × IsFault opening before tail BadDigest place)

-- What came of a record of any head, the digest too.
abbrev pub TookHead : List DiskState → List DiskState → Opened → List Record → Intake → List ℕ → List ℕ → RecordHead → Result Bool RecvError → Type 0
TookHead old disks opening before new front tail head (Ok true) = AreKept old disks × TookRecord new.ended disks opening before new front tail (length (spelled_head head) + body_len head)
TookHead old disks opening before new front tail head (Ok false) = AreKept old disks × HasRead disks opening before new front × Waits opening before tail
TookHead old disks opening before new front tail head (Err e) = AreRefused old disks e × Tells e ((place : ℕ) × IsFault opening before tail e place)

-- The same for all bytes that were taken in before, which have this digest.
abbrev pub Closes : List DiskState → Intake → Intake → Summed → List ℕ → Result Bool RecvError → Type 0
Closes disks i new digest behind result = (front tail : List ℕ) (opening : Opened) (before : List Record) → IsBytes tail → Sums digest front → HasRead disks opening before i front
    → OpensHead opening before tail heads.Commit behind → CanSay digest front → Closed disks opening before new front tail result

-- Fewer bytes than the body has are behind the head.
abbrev pub IsShort : RecordHead → List ℕ → Result Bool RecvError → Type 0
IsShort head behind result = IfOk result (λ took. took ≡ false → length (spelled_head head) + length behind ≤ 131077)

-- As many are.
abbrev pub IsLong : RecordHead → List ℕ → Result Bool RecvError → Type 0
IsLong head behind result = IfOk result (λ took. took ≡ true → body_len head ≤ length behind)

-- The head of a device.
abbrev pub IsDeviceHead : RecordHead → Type 0
IsDeviceHead (heads.Device number len) = Unit {0}
IsDeviceHead _ = ⊥

-- The head of a device, and its body is whole.
abbrev pub IsWholeDevice : RecordHead → List ℕ → Type 0
IsWholeDevice (heads.Device number len) behind = len ≤ length behind
IsWholeDevice _ behind = ⊥

-- The bytes begin with the record of a device.
pub record BeginsDevice (tail : List ℕ) : Type 0 where
  pub number : ℕ
  pub body : List ℕ
  pub more : List ℕ
  pub whole : tail ≡ spelled_record (device number body) ++ more

-- What taking the record of any head promises, the digest too. `was` and `digest` are the digest of what was taken in, before and after.
pub record TakesHead (old disks : List DiskState) (i new : Intake) (was digest : Summed) (head : RecordHead) (behind : List ℕ) (result : Result Bool RecvError) : Type 0 where
  pub short : IsShort head behind result
  pub long : IsLong head behind result
  pub untouched : new.ended ≡ false → OnOk result (digest ≡ was)
  pub waits : result ≡ Ok false → new.ended ≡ false
  pub memory : result ≡ Err NoMemory → IsWholeDevice head behind
  pub after : (front tail : List ℕ) (opening : Opened) (before : List Record) → IsBytes tail → Sums was front → HasRead old opening before i front
      → OpensHead opening before tail head behind → (head ≡ heads.Commit → CanSay was front) → TookHead old disks opening before new front tail head result
