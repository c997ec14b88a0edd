-- What contracts see of a machine.
use Rattle.std.specs.Prelude.{ℕ, ◌+◌, ◌%◌, ◌^◌, List, [], map, All, Option, Some, None, Bool, true, IsTrue, slice_get, slice_index_or, slice_set, if◌then◌else◌}
use Rattle.guestmem.specs.Memory.{Memory}
use Rattle.blk.specs.Sectors.{Sector, SectorsState}
use Rattle.machine.specs.State.{DeviceState, MachineState}

-- What is known of a device's disk besides its sectors. It is not part of the machine's state.
pub record Marks : Type 0 where
  pub failures : ℕ
  pub honest : Bool
  pub steady : Bool

-- A device with its disk. `is_flushed`: all that was written to the disk is durable. `calls`: the count of the disk's calls, or None where
-- it has no disk.
pub record DeviceSeen : Type 0 where
  pub state : DeviceState
  pub sectors : List Sector
  pub marks : Marks
  pub is_flushed : Bool
  pub calls : Option ℕ

-- A machine, its RAM here or lent: what is known of its memory, and its devices with their disks.
pub record SeenOver (M : Type 0) : Type 0 where
  pub memory : M
  pub devices : List DeviceSeen

-- A machine whose RAM is here: its memory with the versions of the pages.
abbrev pub Seen : Type 0
Seen = SeenOver Memory

-- The machine that it is with this memory.
abbrev pub with_ram : {M : Type 0} → SeenOver M → Memory → Seen
with_ram s m = record { memory = m; devices = s.devices }

-- The states of its devices.
abbrev pub states_of : {M : Type 0} → SeenOver M → List DeviceState
states_of s = map (λ d. d.state) s.devices

-- The machine's state: what two equal machines agree on.
abbrev pub state_of : Seen → MachineState
state_of s = record {
  ram = s.memory.bytes;
  devices = map (λ d. d.state) s.devices;
  disks = map (λ d. d.sectors) s.devices;
}

-- The marks of each device's disk.
abbrev pub all_marks : Seen → List Marks
all_marks s = map (λ d. d.marks) s.devices

-- Whether each device's disk is flushed.
abbrev pub all_flushed : Seen → List Bool
all_flushed s = map (λ d. d.is_flushed) s.devices

-- The count of the calls of each device's disk.
abbrev pub all_calls : Seen → List (Option ℕ)
all_calls s = map (λ d. d.calls) s.devices

-- Whether the disk of the device of this number is flushed. A device that does not exist has no disk, and nothing to flush.
abbrev pub is_flushed_at : Seen → ℕ → Bool
is_flushed_at s dev = slice_index_or (all_flushed s) dev true

-- A device without a disk has no sectors, and its marks are those of a disk that is honest and steady.
abbrev pub no_marks : Marks
no_marks = record { failures = 0; honest = true; steady = true }

abbrev pub disk_marks : SectorsState → Marks
disk_marks s = record { failures = s.failures; honest = s.honest; steady = s.steady }

abbrev pub sectors_of : Option SectorsState → List Sector
sectors_of None = []
sectors_of (Some s) = s.content

abbrev pub marks_of : Option SectorsState → Marks
marks_of None = no_marks
marks_of (Some s) = disk_marks s

abbrev pub flushed_of : Option SectorsState → Bool
flushed_of None = true
flushed_of (Some s) = s.is_flushed

abbrev pub calls_of : Option SectorsState → Option ℕ
calls_of None = None
calls_of (Some s) = Some s.calls

-- The marks of the disk of the device of this number. A device that does not exist has no disk.
abbrev pub or_no_marks : Option Marks → Marks
or_no_marks None = no_marks
or_no_marks (Some marks) = marks

abbrev pub marks_at : List Marks → ℕ → Marks
marks_at marks dev = or_no_marks (slice_get marks dev)

-- Every disk is honest: a read gives what was written.
abbrev pub AreHonest : Seen → Type 0
AreHonest s = All (λ m. IsTrue m.honest) (all_marks s)

-- The marks of all disks after a call of one of them failed.
abbrev pub failed_once : Marks → Marks
failed_once m = record m { failures = (m.failures + 1) % 2 ^ 64 }

abbrev pub failed_if : Bool → Marks → Marks
failed_if failed m = if failed then failed_once m else m

abbrev pub failed_at : List Marks → ℕ → List Marks
failed_at marks dev = slice_set marks dev (failed_once (marks_at marks dev))

-- The count of a disk's calls after one more call, or none. A device without a disk calls none.
abbrev pub called_if : (ℕ → ℕ) → Bool → Option ℕ → Option ℕ
called_if called made None = None
called_if called made (Some calls) = Some (if made then called calls else calls)

-- The counts of all disks after a call of the disk of the device of this number.
abbrev pub called_at : (ℕ → ℕ) → List (Option ℕ) → ℕ → List (Option ℕ)
called_at called calls dev = slice_set calls dev (called_if called true (slice_index_or calls dev None))
