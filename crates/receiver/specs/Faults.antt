-- The faults of a stream, each with its place: the number of bytes up to and including the one at which it is found. The header
-- and whole good records come first, and then bytes that begin with the fault.
use Rattle.std.specs.Prelude.{◌≡◌, ◌≢◌, ◌<◌, ◌≤◌, ◌^◌, ◌⊎◌, ℕ, ◌+◌, ◌*◌, true, List, [], ◌∷◌, ◌++◌, length, drop}
use Rattle.sha2.specs.Sha256.{sha256}
use Rattle.wire.specs.DeviceBody.{IsBodyOf}
use Rattle.wire.specs.Header as told
use Rattle.wire.specs.HeaderFaults.{IsBadCount, IsBadMagic, IsBadShape, IsBadVersion, IsPlain}
use Rattle.wire.specs.Numbers.{digits}
use Rattle.wire.specs.Records.{Record, is_zero_page}
use Rattle.wire.specs.Stream.{rounds, texts}
use Rattle.wire.specs.declared.header_error.HeaderError.{HeaderError}
use Rattle.wire.specs.declared.header_error.HeaderError.TheVariants as heads
use Rattle.guestmem.specs.Item as items
use Rattle.machine.specs.Layout.{IsItemIn}
use Rattle.machine.specs.Limits.{AreWithin}
use Rattle.machine.specs.Shapes.{disk_sizes}
use Rattle.machine.specs.State.{DeviceState}
use Rattle.machine.specs.declared.limits.Limits.{Limits}
use Rattle.machine.specs.declared.shape.Shape.{Shape}
use Rattle.receiver.specs.Opened.{HasPages, Opened, BeginsOpened, opened_header, opened_layout}
use Rattle.receiver.specs.Good.{AreGood, AreNamed, devices_in}
use Rattle.receiver.specs.declared.ram_terms.RamTerms.{RamTerms}
use Rattle.receiver.specs.declared.recv_error.RecvError.{RecvError}
use Rattle.receiver.specs.declared.recv_error.RecvError.TheVariants.{BadMagic, BadVersion, BadShape, ShapeMismatch, BadTag, BadPage, BadSector, BadRound, BadDevice, BadDigest, Missing, Trailing, NoMemory}

-- The tags of pages, with their bytes (1) or of zeros (6).
abbrev pub IsPageTag : ℕ → Type 0
IsPageTag tag = (tag ≡ 1) ⊎ (tag ≡ 6)

-- The tags of pages, sectors and ends of rounds.
abbrev pub IsEarly : ℕ → Type 0
IsEarly tag = (tag ≤ 3) ⊎ (tag ≡ 6)

-- The tags of devices and of the digest.
abbrev pub IsLate : ℕ → Type 0
IsLate tag = (4 ≤ tag) × (tag ≤ 5)

-- A tag that may come next in this version, after `devices` of `count` device records: pages, sectors and ends of rounds before all
-- devices, a device while one is missing. Tag 6 is one since version 2.
pub record MayTag (version count devices tag : ℕ) : Type 0 where
  pub least : 1 ≤ tag
  pub most : tag ≤ 6
  pub early : IsEarly tag → devices ≡ 0
  pub missing : tag ≡ 4 → devices < count
  pub since : tag ≡ 6 → version ≢ 1

-- What must come before a device (tag 4) or the digest (tag 5): each item, and before the digest each device.
pub record IsComplete (opening : Opened) (before : List Record) (tag : ℕ) : Type 0 where
  pub items : AreNamed (opened_layout opening) before
  pub devices : tag ≡ 5 → devices_in before ≡ length opening.shapes

-- The bytes begin with a tag, and a record of this tag may come here.
pub record Opens (opening : Opened) (before : List Record) (tail : List ℕ) (tag : ℕ) (more : List ℕ) : Type 0 where
  pub whole : tail ≡ tag ∷ more
  pub may : MayTag opening.version (length opening.shapes) (devices_in before) tag
  pub complete : IsLate tag → IsComplete opening before tag

-- BadTag (5), found at the tag.
pub record IsBadTag (opening : Opened) (before : List Record) (tail : List ℕ) (place : ℕ) : Type 0 where
  pub tag : ℕ
  pub more : List ℕ
  pub whole : tail ≡ tag ∷ more
  pub never : ¬ (MayTag opening.version (length opening.shapes) (devices_in before) tag)
  pub there : place ≡ 1

-- Missing (11), found at the tag.
pub record IsMissing (opening : Opened) (before : List Record) (tail : List ℕ) (place : ℕ) : Type 0 where
  pub tag : ℕ
  pub more : List ℕ
  pub whole : tail ≡ tag ∷ more
  pub may : MayTag opening.version (length opening.shapes) (devices_in before) tag
  pub late : IsLate tag
  pub never : ¬ (IsComplete opening before tag)
  pub there : place ≡ 1

-- BadPage (6), found at the end of the number.
pub record IsBadPage (opening : Opened) (before : List Record) (tail : List ℕ) (place : ℕ) : Type 0 where
  pub tag : ℕ
  pub number : ℕ
  pub more : List ℕ
  pub names : IsPageTag tag
  pub opens : Opens opening before tail tag (digits 4 number ++ more)
  pub fits : number < 2 ^ 32
  pub never : opening.pages ≤ number
  pub there : place ≡ 5

-- BadPage (6), found at the last byte: the version has another record for a page with these bytes.
pub record IsLongZeros (opening : Opened) (before : List Record) (tail : List ℕ) (place : ℕ) : Type 0 where
  pub number : ℕ
  pub bytes : List ℕ
  pub more : List ℕ
  pub opens : Opens opening before tail 1 (digits 4 number ++ (bytes ++ more))
  pub fits : number < 2 ^ 32
  pub within : number < opening.pages
  pub long : length bytes ≡ 4096
  pub zeros : is_zero_page opening.version bytes ≡ true
  pub there : place ≡ 4101

-- BadSector (7), found at the byte that says whether the sector is good.
pub record IsBadSector (opening : Opened) (before : List Record) (tail : List ℕ) (place : ℕ) : Type 0 where
  pub disk : ℕ
  pub number : ℕ
  pub mark : ℕ
  pub more : List ℕ
  pub opens : Opens opening before tail 2 (disk ∷ (digits 4 number ++ (mark ∷ more)))
  pub fits : number < 2 ^ 32
  pub never : ¬ (IsItemIn (opened_layout opening) (items.sector disk number) × (mark ≤ 1))
  pub there : place ≡ 7

-- BadRound (8), found at the end of the number.
pub record IsBadRound (opening : Opened) (before : List Record) (tail : List ℕ) (place : ℕ) : Type 0 where
  pub number : ℕ
  pub more : List ℕ
  pub opens : Opens opening before tail 3 (digits 4 number ++ more)
  pub fits : number < 2 ^ 32
  pub never : number ≢ rounds before + 1
  pub there : place ≡ 5

-- A device's number and the length of its body that may come here.
pub record IsNextHead (before : List Record) (number len : ℕ) : Type 0 where
  pub next : number ≡ devices_in before
  pub few : len ≤ 131072

-- BadDevice (9), found at the end of the length.
pub record IsBadDeviceHead (opening : Opened) (before : List Record) (tail : List ℕ) (place : ℕ) : Type 0 where
  pub number : ℕ
  pub len : ℕ
  pub more : List ℕ
  pub opens : Opens opening before tail 4 (number ∷ (digits 4 len ++ more))
  pub fits : len < 2 ^ 32
  pub never : ¬ (IsNextHead before number len)
  pub there : place ≡ 6

-- BadDevice (9), found at the end of the body: no device of the shape that is next, which is sound at the machine's base and which the version
-- has, has this body.
pub record IsBadDeviceBody (opening : Opened) (before : List Record) (tail : List ℕ) (place : ℕ) : Type 0 where
  pub body : List ℕ
  pub more : List ℕ
  pub shape : Shape
  pub others : List Shape
  pub opens : Opens opening before tail 4 (devices_in before ∷ (digits 4 (length body) ++ (body ++ more)))
  pub few : length body ≤ 131072
  pub here : drop (devices_in before) opening.shapes ≡ shape ∷ others
  pub never : (d : DeviceState) → ¬ (IsBodyOf opening.version shape opening.ram.base (4096 * opening.pages) body d)
  pub there : place ≡ 6 + length body

-- BadDigest (10), found at the last byte of the digest.
pub record IsBadDigest (opening : Opened) (before : List Record) (tail : List ℕ) (place : ℕ) : Type 0 where
  pub digest : List ℕ
  pub more : List ℕ
  pub opens : Opens opening before tail 5 (digest ++ more)
  pub long : length digest ≡ 32
  pub never : digest ≢ sha256 (opened_header opening ++ texts before)
  pub there : place ≡ 33

-- Trailing (12), found at the first byte after the digest.
pub record IsTrailing (opening : Opened) (before : List Record) (tail : List ℕ) (place : ℕ) : Type 0 where
  pub byte : ℕ
  pub more : List ℕ
  pub opens : Opens opening before tail 5 (sha256 (opened_header opening ++ texts before) ++ (byte ∷ more))
  pub there : place ≡ 34

-- The bytes after whole good records begin with this fault. `place` is the number of these bytes up to and including the one at
-- which it is found.
abbrev pub IsFault : Opened → List Record → List ℕ → RecvError → ℕ → Type 0
IsFault opening before tail BadTag place = IsBadTag opening before tail place
IsFault opening before tail BadPage place = IsBadPage opening before tail place ⊎ IsLongZeros opening before tail place
IsFault opening before tail BadSector place = IsBadSector opening before tail place
IsFault opening before tail BadRound place = IsBadRound opening before tail place
IsFault opening before tail BadDevice place = IsBadDeviceHead opening before tail place ⊎ IsBadDeviceBody opening before tail place
IsFault opening before tail BadDigest place = IsBadDigest opening before tail place
IsFault opening before tail Missing place = IsMissing opening before tail place
IsFault opening before tail Trailing place = IsTrailing opening before tail place
IsFault opening before tail _ place = ⊥

-- The header.

-- ShapeMismatch (4), found at the end of the header of a machine within the limits: the disks are not those of the machine, or the RAM
-- that was handed in has another number of pages.
pub record IsMismatch (ram : RamTerms) (sizes bytes : List ℕ) (at : ℕ) : Type 0 where
  pub opening : told.Opening
  pub more : List ℕ
  pub begins : told.Begins bytes opening more
  pub within : AreWithin ram.limits opening.pages opening.shapes
  pub never : ¬ ((sizes ≡ disk_sizes opening.shapes) × HasPages ram opening.pages)
  pub there : at ≡ length (told.header opening)

abbrev pub IsHeaderFault : RamTerms → List ℕ → List ℕ → RecvError → ℕ → Type 0
IsHeaderFault ram sizes bytes BadMagic at = IsBadMagic bytes at
IsHeaderFault ram sizes bytes BadVersion at = IsBadVersion ram.limits bytes at ⊎ IsPlain ram.limits bytes at
IsHeaderFault ram sizes bytes BadShape at = IsBadCount ram.limits bytes at ⊎ IsBadShape ram.limits bytes at
IsHeaderFault ram sizes bytes ShapeMismatch at = IsMismatch ram sizes bytes at
IsHeaderFault ram sizes bytes _ at = ⊥

-- The faults of a header have the same names, but for one that the disks and the RAM make.
abbrev pub recv_error_of : HeaderError → RecvError
recv_error_of heads.BadMagic = BadMagic
recv_error_of heads.BadVersion = BadVersion
recv_error_of heads.BadShape = BadShape
recv_error_of heads.NoMemory = NoMemory

-- The bytes show this fault of the header within the limits, whatever else is said of RAM and disks.
abbrev pub ShowsHeaderFault : Limits → List ℕ → RecvError → Type 0
ShowsHeaderFault limits bytes e = (ram : RamTerms) (sizes : List ℕ) → ram.limits ≡ limits → (at : ℕ) × IsHeaderFault ram sizes bytes e at

-- What a refusal means: there is this fault of the header, unless memory was refused.
abbrev pub TellsHead : RecvError → Type 0 → Type 0
TellsHead NoMemory F = Unit {0}
TellsHead _ F = F

-- The bytes begin with no whole header, and with no fault of one within the limits.
pub record WaitsHead (limits : Limits) (bytes : List ℕ) : Type 0 where
  pub no_header : (opening : told.Opening) (rest : List ℕ) → ¬ (told.Begins bytes opening rest)
  pub no_fault : (ram : RamTerms) (sizes : List ℕ) (k : RecvError) (at : ℕ) → ram.limits ≡ limits → ¬ (IsHeaderFault ram sizes bytes k at)

-- The bytes begin with a header of a machine within the limits, with disks of these sizes, and of as many pages as the RAM that was
-- handed in, then come whole good records, then `tail`.
pub record IsFront (ram : RamTerms) (sizes bytes : List ℕ) (opening : Opened) (before : List Record) (tail : List ℕ) : Type 0 where
  pub begins : BeginsOpened bytes opening (texts before ++ tail)
  pub based : opening.ram ≡ ram
  pub fits : sizes ≡ disk_sizes opening.shapes
  pub suits : HasPages ram opening.pages
  pub within : AreWithin ram.limits opening.pages opening.shapes
  pub good : AreGood opening [] before

pub record IsRecordFault (ram : RamTerms) (sizes bytes : List ℕ) (k : RecvError) (at : ℕ) : Type 0 where
  pub opening : Opened
  pub before : List Record
  pub tail : List ℕ
  pub place : ℕ
  pub front : IsFront ram sizes bytes opening before tail
  pub fault : IsFault opening before tail k place
  pub there : at ≡ length (opened_header opening ++ texts before) + place

-- For what is said of RAM and disks of these sizes the bytes have this fault, found at this place.
abbrev pub Fault : RamTerms → List ℕ → List ℕ → RecvError → ℕ → Type 0
Fault ram sizes bytes k at = IsHeaderFault ram sizes bytes k at ⊎ IsRecordFault ram sizes bytes k at
