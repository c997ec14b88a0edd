-- The stream of a machine: a header; pages, sectors and ends of rounds in any order; each device once, in order; and the
-- digest of all bytes before it.
use Rattle.std.specs.Prelude.{◌≡◌, ◌↔◌, All, ℕ, zero, suc, ◌+◌, List, [], ◌∷◌, ◌++◌, map, slice_get, Option, Some, None, Bool, true, false, ◌==◌, ◌&&◌, if◌then◌else◌}
use Rattle.std.specs.List.{AllByRecursion, list_any}
use Rattle.sha2.specs.Sha256.{sha256}
use Rattle.blk.specs.Sectors.{Sector}
use Rattle.guestmem.specs.Item as items
use Rattle.guestmem.specs.Item.{Item}
use Rattle.guestmem.specs.Page.{page_of}
use Rattle.machine.specs.EffectLaws.{sector_on}
use Rattle.machine.specs.Layout.{Layout, IsItemIn, layout_of, pages_of, item_at, size_of}
use Rattle.machine.specs.Sound.{IsSound}
use Rattle.machine.specs.State.{DeviceState, MachineState}
use Rattle.machine.specs.Shapes.{made_as}
use Rattle.machine.specs.declared.shape.Shape.{Shape}
use Rattle.wire.specs.DeviceBody.{body, IsDeviceOf}
use Rattle.wire.specs.Header.{IsVersion, Opening, header, is_late, version_of}
use Rattle.wire.specs.Records.{Record, page, sector, round_end, device, commit, zero_page, page_record, spelled_record, HasSpelling, IsOf}

abbrev pub shapes_in : List DeviceState → List Shape
shapes_in devices = map (λ d. made_as d.kind) devices

-- A version has the devices of a machine: it has each of them, and version 3 is that of the devices that version 2 has not.
pub record HasDevices (version : ℕ) (devices : List DeviceState) : Type 0 where
  pub each : All (IsDeviceOf version) devices
  pub late : (version ≡ 3) ↔ (list_any is_late (shapes_in devices) ≡ true)

-- The records that may come before the devices: pages and sectors that exist, and ends of rounds.
abbrev pub MayStand : Layout → Record → Type 0
MayStand l (page n bytes) = IsItemIn l (items.page n)
MayStand l (zero_page n) = IsItemIn l (items.page n)
MayStand l (sector dev n content) = IsItemIn l (items.sector dev n)
MayStand l (round_end n) = Unit {0}
MayStand l _ = ⊥

pub record IsEntry (version : ℕ) (l : Layout) (r : Record) : Type 0 where
  pub spells : HasSpelling r
  pub has : IsOf version r
  pub stands : MayStand l r

-- The ends of rounds are numbered one after another, from `k` on.
abbrev pub AreNumbered : ℕ → List Record → Type 0
AreNumbered k [] = Unit {0}
AreNumbered k (round_end n ∷ rs) = (n ≡ k) × AreNumbered (k + 1) rs
AreNumbered k (_ ∷ rs) = AreNumbered k rs

-- The number of rounds that ended.
unfoldable pub rounds : List Record → ℕ
rounds [] = 0
rounds (round_end n ∷ rs) = rounds rs + 1
rounds (_ ∷ rs) = rounds rs

abbrev pub or_else : {A : Type 0} → Option A → Option A → Option A
or_else (Some x) other = Some x
or_else None other = other

-- The record, where it names the item.
abbrev pub same_item : Item → Item → Bool
same_item (items.page a) (items.page b) = a == b
same_item (items.sector a b) (items.sector c d) = a == c && b == d
same_item _ _ = false

abbrev pub says_of : Item → Record → Option Record
says_of i (page n bytes) = if same_item i (items.page n) then Some (page n bytes) else None
says_of i (zero_page n) = if same_item i (items.page n) then Some (zero_page n) else None
says_of i (sector dev n content) = if same_item i (items.sector dev n) then Some (sector dev n content) else None
says_of i _ = None

-- The last record that names an item.
unfoldable pub last_named : Item → List Record → Option Record
last_named i [] = None
last_named i (r ∷ rs) = or_else (last_named i rs) (says_of i r)

abbrev pub content_of : Option Sector → Sector
content_of None = None
content_of (Some content) = content

-- The record of an item in a version, with the contents that RAM and the disks have for it.
abbrev pub record_in : ℕ → List ℕ → List (List Sector) → Item → Record
record_in version ram disks (items.page n) = page_record version n (page_of ram n)
record_in version ram disks (items.sector dev n) = sector dev n (content_of (sector_on (slice_get disks dev) n))

-- The record of an item as machines are sent: version 3 has those of version 2.
abbrev pub record_of : MachineState → Item → Record
record_of m i = record_in 2 m.ram m.disks i

-- The encodings of records, one after another.
unfoldable pub texts : List Record → List ℕ
texts [] = []
texts (r ∷ rs) = spelled_record r ++ texts rs

-- The encodings of the records of devices, which are numbered from `number` on.
unfoldable pub device_texts : ℕ → List DeviceState → List ℕ
device_texts number [] = []
device_texts number (d ∷ ds) = spelled_record (device number (body d)) ++ device_texts (number + 1) ds

-- What a stream of a machine opens with.
abbrev pub opening_in : ℕ → ℕ → List DeviceState → Opening
opening_in version pages devices = record { version = version; pages = pages; shapes = shapes_in devices }

abbrev pub before_commit : ℕ → ℕ → List Record → List DeviceState → List ℕ
before_commit version pages entries devices = header (opening_in version pages devices) ++ (texts entries ++ device_texts 0 devices)

-- The bytes are a stream of this machine in this version, with these records before its devices: each item of the machine is
-- named, and the last record that names it holds its contents in the machine; and the version has its devices.
pub record IsStreamBy (version : ℕ) (bytes : List ℕ) (m : MachineState) (entries : List Record) : Type 0 where
  pub known : IsVersion version
  pub each : AllByRecursion (IsEntry version (layout_of m)) entries
  pub numbered : AreNumbered 1 entries
  pub last : (i : Item) → IsItemIn (layout_of m) i → last_named i entries ≡ Some (record_in version m.ram m.disks i)
  pub sound : IsSound m
  pub devices : HasDevices version m.devices
  pub whole : bytes ≡ before_commit version (pages_of m) entries m.devices ++ spelled_record (commit (sha256 (before_commit version (pages_of m) entries m.devices)))

-- The bytes are a stream of this machine, in one of the versions.
pub record IsStream (bytes : List ℕ) (m : MachineState) : Type 0 where
  pub version : ℕ
  pub entries : List Record
  pub by : IsStreamBy version bytes m entries

-- The records of the items below a number in a version, each once, in their order.
unfoldable pub records_in : ℕ → MachineState → ℕ → List Record
records_in version m zero = []
records_in version m (suc n) = records_in version m n ++ record_in version m.ram m.disks (item_at (layout_of m) n) ∷ []

abbrev pub records_below : MachineState → ℕ → List Record
records_below m n = records_in 2 m n

-- The stream of a machine that names each item once, in order, and ends no round, up to the digest.
abbrev pub saved_in : ℕ → MachineState → List ℕ
saved_in version m = before_commit version (pages_of m) (records_in version m (size_of (layout_of m))) m.devices

-- The same with the digest.
unfoldable pub whole_in : ℕ → MachineState → List ℕ
whole_in version m = saved_in version m ++ spelled_record (commit (sha256 (saved_in version m)))

-- What is saved of a machine, up to the digest and with it: in the version in which it is sent.
abbrev pub saved : MachineState → List ℕ
saved m = saved_in (version_of (shapes_in m.devices)) m

abbrev pub whole : MachineState → List ℕ
whole m = whole_in (version_of (shapes_in m.devices)) m
