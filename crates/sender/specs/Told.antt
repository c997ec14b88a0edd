-- The records of items, with what the disks returned of their sectors as a call read them.
use Rattle.std.specs.Prelude.{◌≡◌, ℕ, List, [], ◌∷◌, Option, Some, None, IsTrue}
use Rattle.blk.specs.Disk.{IsSector}
use Rattle.blk.specs.Sectors.{Sector}
use Rattle.guestmem.specs.Item.{Item, page, sector}
use Rattle.machine.specs.Applied.{IsGood}
use Rattle.machine.specs.EffectLaws.{sector_on, sectors_on}
use Rattle.machine.specs.Layout.{item_at, layout_of}
use Rattle.machine.specs.Seen.{AreHonest, Marks, Seen, all_marks, marks_at, state_of}
use Rattle.machine.specs.State.{MachineState}
use Rattle.wire.specs.Records as records
use Rattle.wire.specs.Records.{Record}
use Rattle.wire.specs.Stream.{IsStream, record_of}
use Rattle.sender.specs.LiveState.{records_of}

-- What was read of a good sector, from a disk with these marks: 512 bytes. They are its contents if the disk is honest.
pub record IsReadSector (marks : Marks) (found : Option Sector) (bytes : List ℕ) : Type 0 where
  pub whole : IsSector bytes
  pub good : IsGood found
  pub is : IsTrue marks.honest → found ≡ Some (Some bytes)

-- What is sent of a sector: that it is bad, exactly where it is marked bad, or what was read of it.
abbrev pub IsSentAs : Marks → Option Sector → Sector → Type 0
IsSentAs marks found None = found ≡ Some None
IsSentAs marks found (Some bytes) = IsReadSector marks found bytes

pub record IsToldSector (s : Seen) (dev n : ℕ) (entry : Record) : Type 0 where
  pub content : Sector
  pub sent : IsSentAs (marks_at (all_marks s) dev) (sector_on (sectors_on (state_of s) dev) n) content
  pub is : entry ≡ records.sector dev n content

-- The record of an item: that of a page has what RAM holds, whatever the disks do, and that of a sector what was read of it.
abbrev pub IsTold : Seen → Item → Record → Type 0
IsTold s (page n) entry = entry ≡ record_of (state_of s) (page n)
IsTold s (sector dev n) entry = IsToldSector s dev n entry

-- The records of the items with these numbers, each once, in order.
abbrev pub AreTold : Seen → List ℕ → List Record → Type 0
AreTold s [] [] = Unit {0}
AreTold s (i ∷ is) (entry ∷ entries) = IsTold s (item_at (layout_of (state_of s)) i) entry × AreTold s is entries
AreTold s is entries = ⊥

-- Honest disks return what they hold: the records are those of the machine.
abbrev pub HonestDisksTellContents : Type 0
HonestDisksTellContents = (s : Seen) (numbers : List ℕ) (entries : List Record) → AreHonest s → AreTold s numbers entries → entries ≡ records_of (state_of s) numbers

-- The bytes are a stream of a machine with the RAM and the devices of this one. It says nothing of sectors: what was sent of each,
-- `IsTold` says of the call that sent it.
pub record IsStreamAsTold (bytes : List ℕ) (m : MachineState) : Type 0 where
  pub as_told : MachineState
  pub ram : as_told.ram ≡ m.ram
  pub devices : as_told.devices ≡ m.devices
  pub stream : IsStream bytes as_told
