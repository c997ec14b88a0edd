-- What a receiver has read of the bytes that it was fed.
use Rattle.std.specs.Prelude.{All, ◌≡◌, ℕ, ◌+◌, ◌*◌, Bool, true, false, List, [], ◌∷◌, ◌++◌, length, take, drop, Option, Some, None, Result, Ok, Err}
use Rattle.std.specs.List.{AllByRecursion}
use Rattle.receiver.specs.Sums.{MayClose, Summed, Sums}
use Rattle.sha2.specs.Sha256.{sha256}
use Rattle.wire.specs.DeviceBody.{body, IsDeviceOf}
use Rattle.receiver.specs.Opened.{HasPages, opened_header, IsOpenedHeader, Opened, opened_layout}
use Rattle.blk.specs.Disk.{DiskState}
use Rattle.wire.specs.Records.{Record, device, commit, spelled_record, BeginsNoRecord}
use Rattle.wire.specs.Stream.{IsEntry, AreNumbered, rounds, shapes_in, texts}
use Rattle.machine.specs.First.{AreMarksOf, dealt_sectors, marked_sectors}
use Rattle.machine.specs.Layout.{firsts_of}
use Rattle.machine.specs.Limits.{AreWithin}
use Rattle.machine.specs.Shapes.{disk_sizes}
use Rattle.machine.specs.Sound.{IsSoundDevice}
use Rattle.blk.specs.Sectors.{AreWhole, Sector}
use Rattle.machine.specs.BadSectors.{bad_on}
use Rattle.machine.specs.State.{DeviceState}
use Rattle.receiver.specs.Disks.{AreHonestDisks, AreKept, AreRefused, all_marks_in, sizes_in}
use Rattle.receiver.specs.Good.{AreGood}
use Rattle.receiver.specs.Taken.{AreTaken}
use Rattle.receiver.specs.Faults.{IsComplete, Opens, IsFault, Fault}
use Rattle.receiver.specs.declared.intake.Intake.{Intake}
use Rattle.receiver.specs.declared.ram_terms.RamTerms.{RamTerms}
use Rattle.receiver.specs.declared.recv_error.RecvError.{RecvError}
use Rattle.receiver.specs.declared.recv_error.RecvError.TheVariants.{DiskFailed, NoMemory}

-- The records of devices, numbered from `number` on.
unfoldable pub device_records : ℕ → List DeviceState → List Record
device_records number [] = []
device_records number (d ∷ ds) = device number (body d) ∷ device_records (number + 1) ds

-- Of disks with these marks of bad sectors, these are the sectors as they were written: the same ones are bad, whatever the disks do, and
-- honest disks hold them.
pub record AreWritten (disks : List DiskState) (bad : List (List Bool)) (written : List (List Sector)) : Type 0 where
  pub marks : AreMarksOf disks bad
  pub whole : All AreWhole written
  pub bad_are : bad_on written ≡ bad
  pub held : AreHonestDisks (all_marks_in disks) → marked_sectors disks bad ≡ written

-- The intake has taken in these bytes, a header and these whole good records. The disks have the sizes of those of the devices, and
-- RAM that was handed in has the machine's pages, and the machine is within the limits.
pub record HasRead (disks : List DiskState) (opening : Opened) (before : List Record) (i : Intake) (front : List ℕ) : Type 0 where
  pub head : IsOpenedHeader opening
  pub fits : sizes_in disks ≡ disk_sizes opening.shapes
  pub suits : HasPages opening.ram opening.pages
  pub within : AreWithin opening.ram.limits opening.pages opening.shapes
  pub good : AreGood opening [] before
  pub whole : front ≡ opened_header opening ++ texts before
  pub version_is : i.terms.version ≡ opening.version
  pub ram_is : i.terms.ram ≡ opening.ram
  pub shapes_are : i.shapes.items ≡ opening.shapes
  pub firsts_are : i.firsts.items ≡ firsts_of (opened_layout opening)
  pub sectors : List (List Sector)
  pub written : AreWritten disks i.bad.items sectors
  pub entries : List Record
  pub split : before ≡ entries ++ device_records 0 i.devices.items
  pub each : AllByRecursion (IsEntry opening.version (opened_layout opening)) entries
  pub numbered : AreNumbered 1 entries
  pub rounds_are : i.rounds ≡ rounds before
  pub taken : AreTaken opening.version i.ram.bytes (dealt_sectors opening.shapes sectors) i.named (opened_layout opening) before
  pub devices_are : shapes_in i.devices.items ≡ take (length i.devices.items) opening.shapes
  pub sound : AllByRecursion (IsSoundDevice opening.ram.base (4096 * opening.pages)) i.devices.items
  pub has : AllByRecursion (IsDeviceOf opening.version) i.devices.items

-- What a refusal means: there is this fault, unless memory was refused or a disk failed.
abbrev pub Tells : RecvError → Type 0 → Type 0
Tells NoMemory F = Unit {0}
Tells DiskFailed F = Unit {0}
Tells _ F = F

-- The bytes after whole good records begin with no whole record and with no fault.
pub record Waits (opening : Opened) (before : List Record) (tail : List ℕ) : Type 0 where
  pub no_record : BeginsNoRecord opening.version tail
  pub no_fault : (k : RecvError) (place : ℕ) → ¬ (IsFault opening before tail k place)

-- The bytes after all records begin with the tag and the digest of all bytes before them.
pub record Ends (opening : Opened) (before : List Record) (tail : List ℕ) : Type 0 where
  pub more : List ℕ
  pub opens : Opens opening before tail 5 (sha256 (opened_header opening ++ texts before) ++ more)

abbrev pub Checked : Opened → List Record → ℕ → List ℕ → Result (Unit {0}) RecvError → Type 0
Checked opening before tag more (Ok x) = Opens opening before (tag ∷ more) tag more
Checked opening before tag more (Err e) = (place : ℕ) × IsFault opening before (tag ∷ more) e place

-- A record of `len` bytes was taken in at the front of these bytes; or, where the intake has ended, the digest.
abbrev pub TookRecord : Bool → List DiskState → Opened → List Record → Intake → List ℕ → List ℕ → ℕ → Type 0
TookRecord false disks opening before new front tail len = (r : Record) × HasRead disks opening (before ++ r ∷ []) new (front ++ take len tail)
TookRecord true disks opening before new front tail len = (len ≡ 33) × HasRead disks opening before new front × Ends opening before tail

-- The disks and the intake, after it looked at the bytes that follow those that it has taken in: it has taken the record at their front,
-- or that waits, or was refused.
abbrev pub After : List DiskState → List DiskState → Opened → List Record → Intake → List ℕ → List ℕ → Result (Option ℕ) RecvError → Type 0
After old disks opening before new front tail (Ok None) = AreKept old disks × HasRead disks opening before new front × Waits opening before tail
After old disks opening before new front tail (Ok (Some len)) = AreKept old disks × TookRecord new.ended disks opening before new front tail len
After old disks opening before new front tail (Err e) = AreRefused old disks e × Tells e ((place : ℕ) × IsFault opening before tail e place)

-- The same for all bytes that were taken in before, which have this digest, if it can be compared where it comes.
abbrev pub TakesPart : List DiskState → List DiskState → Intake → Intake → Summed → List ℕ → Result (Option ℕ) RecvError → Type 0
TakesPart old disks i new digest bytes result = (front : List ℕ) (opening : Opened) (before : List Record) → Sums digest front → HasRead old opening before i front → MayClose digest front bytes
    → After old disks opening before new front bytes result

-- The intake has taken in the front of the bytes, and waits for more.
pub record IsOpen (disks : List DiskState) (opening : Opened) (i : Intake) (front tail : List ℕ) : Type 0 where
  pub before : List Record
  pub read : HasRead disks opening before i front
  pub waits : Waits opening before tail

-- The intake has taken in a whole stream.
pub record IsEnded (disks : List DiskState) (opening : Opened) (i : Intake) (bytes : List ℕ) : Type 0 where
  pub before : List Record
  pub front : List ℕ
  pub read : HasRead disks opening before i front
  pub complete : IsComplete opening before 5
  pub whole : bytes ≡ front ++ spelled_record (commit (sha256 front))

-- The intake of a receiver that was told this of RAM has taken in these bytes, and not the digest.
pub record IsRead (ram : RamTerms) (disks : List DiskState) (front : List ℕ) (i : Intake) : Type 0 where
  pub opening : Opened
  pub based : opening.ram ≡ ram
  pub before : List Record
  pub read : HasRead disks opening before i front

-- The intake has taken the front of the bytes in, and those after it wait.
pub record IsReading (ram : RamTerms) (disks : List DiskState) (front held : List ℕ) (i : Intake) : Type 0 where
  pub opening : Opened
  pub based : opening.ram ≡ ram
  pub open_at : IsOpen disks opening i front held

-- The intake has taken in a whole stream.
pub record IsReadWhole (ram : RamTerms) (disks : List DiskState) (bytes : List ℕ) (i : Intake) : Type 0 where
  pub opening : Opened
  pub based : opening.ram ≡ ram
  pub ended : IsEnded disks opening i bytes

-- These bytes were taken in, and have this digest; or, with the digest that ends them, they are a whole stream.
abbrev pub IsUpTo : Bool → RamTerms → List DiskState → Summed → List ℕ → Intake → Type 0
IsUpTo false ram disks digest front i = Sums digest front × IsRead ram disks front i
IsUpTo true ram disks digest front i = IsReadWhole ram disks front i

-- What is known of the bytes of which those of `front` were taken in and those after it are held.
abbrev pub IsKnownIn : Bool → RamTerms → List DiskState → Summed → List ℕ → List ℕ → Intake → Type 0
IsKnownIn false ram disks digest front held i = Sums digest front × IsReading ram disks front held i
IsKnownIn true ram disks digest front held i = (held ≡ []) × IsReadWhole ram disks front i

-- The disks, the digest and the intake, after it worked through these bytes, which follow those of `front`, up to `at`.
abbrev pub Worked : RamTerms → List DiskState → List DiskState → Intake → Summed → List ℕ → List ℕ → Result ℕ RecvError → Type 0
Worked ram old disks new digest front bytes (Ok at) = AreKept old disks × IsKnownIn new.ended ram disks digest (front ++ take at bytes) (drop at bytes) new
Worked ram old disks new digest front bytes (Err e) = AreRefused old disks e × Tells e ((at : ℕ) × Fault ram (sizes_in old) (front ++ bytes) e at)
