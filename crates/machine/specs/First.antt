-- New machines, and machines as they were saved.
use Rattle.std.specs.Prelude.{◌≡◌, ℕ, ◌+◌, ◌*◌, ◌%◌, ◌^◌, ◌||◌, ◌&&◌, ◌==◌, not, nat_le, nat_lt, if◌then◌else◌, Bool, true, false, List, [], ◌∷◌, length, map, replicate, Option, Some, None}
use Rattle.std.specs.List.{list_any}
use Rattle.guestmem.specs.declared.limits.TheConstants.{PAGE_SIZE}
use Rattle.guestmem.specs.Number.{IsBytes}
use Rattle.blk.specs.Disk.{DiskState}
use Rattle.blk.specs.Sectors.{Sector, SectorsState, seen_of}
use Rattle.machine.specs.Limits.{usual}
use Rattle.machine.specs.Shapes.{first_device, disk_size_of, disk_sizes, is_beyond, made_as}
use Rattle.machine.specs.State.{MachineState, DeviceState}
use Rattle.machine.specs.Seen.{DeviceSeen, Marks, no_marks, sectors_of, marks_of, flushed_of, calls_of}
use Rattle.machine.specs.declared.limits.Limits.{Limits}
use Rattle.machine.specs.declared.machine.TheConstants.{DEVICES_MAX}
use Rattle.machine.specs.declared.shape.Shape.{Shape}
use Rattle.machine.specs.declared.shape.Shape.TheVariants.{Net, LongNet, Block, Outside}
use Rattle.machine.specs.declared.new_error.NewError.{NewError}
use Rattle.machine.specs.declared.new_error.NewError.TheVariants.{BadShape, DiskMismatch}

-- A list with an entry for each disk is distributed over the devices in order: a device with a disk gets the next entry, and a
-- device without one gets `no_disk`.
abbrev pub given : {A : Type 0} → A → Option ℕ → List A → A
given no_disk None disks = no_disk
given no_disk (Some size) [] = no_disk
given no_disk (Some size) (disk ∷ disks) = disk

abbrev pub left_over : {A : Type 0} → Option ℕ → List A → List A
left_over None disks = disks
left_over (Some size) [] = []
left_over (Some size) (disk ∷ disks) = disks

abbrev pub dealt : {A : Type 0} → A → List Shape → List A → List A
dealt no_disk [] disks = []
dealt no_disk (shape ∷ shapes) disks = given no_disk (disk_size_of shape) disks ∷ dealt no_disk shapes (left_over (disk_size_of shape) disks)

-- The sectors of each device's disk, and the marks of each device's disk, where the disks belong to the devices in order.
abbrev pub dealt_sectors : List Shape → List (List Sector) → List (List Sector)
dealt_sectors shapes disks = dealt [] shapes disks

abbrev pub dealt_marks : List Shape → List Marks → List Marks
dealt_marks shapes marks = dealt no_marks shapes marks

-- The counts of the calls of each device's disk.
abbrev pub dealt_calls : List Shape → List (Option ℕ) → List (Option ℕ)
dealt_calls shapes calls = dealt None shapes calls

-- The bytes of new pages.
abbrev pub zero_pages : ℕ → List ℕ
zero_pages pages = replicate (PAGE_SIZE * pages) 0

-- A machine as it is made: RAM has these bytes from the address `base` on, and each device is in its initial state.
abbrev pub made_machine : ℕ → List ℕ → List Shape → List (List Sector) → MachineState
made_machine base bytes shapes disks = record {
  ram = bytes;
  devices = map (first_device base (length bytes)) shapes;
  disks = dealt_sectors shapes disks;
}

-- A new machine: one of zeros from the address 0 on.
abbrev pub first_machine : ℕ → List Shape → List (List Sector) → MachineState
first_machine pages shapes disks = made_machine 0 (zero_pages pages) shapes disks

-- Some device is beyond its limits.
abbrev pub are_beyond : Limits → List Shape → Bool
are_beyond limits shapes = list_any (is_beyond limits) shapes

abbrev pub are_same : List ℕ → List ℕ → Bool
are_same [] [] = true
are_same (a ∷ as_) (b ∷ bs) = a == b && are_same as_ bs
are_same _ _ = false

-- Whether RAM of this many bytes may begin at this guest-physical address: a multiple of a page, with no byte past the last address.
abbrev pub is_base : ℕ → ℕ → Bool
is_base base bytes = base % PAGE_SIZE == 0 && nat_le (base + bytes) (2 ^ 64)

-- Whether RAM may have this many bytes: whole pages, one to as many as the limits allow.
abbrev pub is_ram_size : Limits → ℕ → Bool
is_ram_size limits bytes = bytes % PAGE_SIZE == 0 && not (bytes == 0) && nat_le bytes (PAGE_SIZE * limits.pages)

-- A machine is beyond its limits: by its RAM, which begins at `base`, by the number of its devices, or by one of these.
abbrev pub is_beyond_limits : Limits → ℕ → ℕ → List Shape → Bool
is_beyond_limits limits base bytes shapes =
    not (is_base base bytes) || not (is_ram_size limits bytes) || length shapes == 0 || nat_lt DEVICES_MAX (length shapes) || are_beyond limits shapes

-- Why no machine is made whose RAM has this many bytes from the address `base` on, of these devices, and of disks of these sizes, if
-- so. What is beyond these limits is told first, then the disks: their sizes must be those of the devices that have one, in their order.
abbrev pub make_refusal : Limits → ℕ → ℕ → List Shape → List ℕ → Option NewError
make_refusal limits base bytes shapes sizes =
    if is_beyond_limits limits base bytes shapes then Some BadShape
    else if not (are_same (disk_sizes shapes) sizes) then Some DiskMismatch
    else None

-- Why no machine with this many pages from the address 0 on is made within the usual limits, if so.
abbrev pub new_refusal : ℕ → List Shape → List ℕ → Option NewError
new_refusal pages shapes sizes = make_refusal usual 0 (PAGE_SIZE * pages) shapes sizes

-- The MAC of a network device is 6 bytes, and the id of a block device 20.
pub record AreBytes (count : ℕ) (list : List ℕ) : Type 0 where
  pub size : length list ≡ count
  pub bytes : IsBytes list

abbrev pub HasBytes : Shape → Type 0
HasBytes (Net mac) = AreBytes 6 mac
HasBytes (LongNet mac longest) = AreBytes 6 mac
HasBytes (Block sectors read_only id) = AreBytes 20 id
HasBytes (Outside sectors read_only id) = AreBytes 20 id
HasBytes _ = Unit {0}

-- What is known of a disk besides its sectors.
abbrev pub marks_in : DiskState → Marks
marks_in d = record { failures = d.failures; honest = d.honest; steady = d.steady }

-- The bad-sector marks of disks without a bad sector.
abbrev pub good_marks : List DiskState → List (List Bool)
good_marks disks = map (λ d. replicate (length d.sectors) false) disks

-- Disks with the sectors that are bad by these marks.
abbrev pub marked : List DiskState → List (List Bool) → List SectorsState
marked [] bad = []
marked (d ∷ ds) [] = []
marked (d ∷ ds) (marks ∷ bad) = seen_of d marks ∷ marked ds bad

-- These disks, with these counts of their calls.
abbrev pub counted : List ℕ → List SectorsState → List SectorsState
counted [] disks = disks
counted (n ∷ ns) [] = []
counted (n ∷ ns) (disk ∷ disks) = record disk { calls = n } ∷ counted ns disks

abbrev pub marked_sectors : List DiskState → List (List Bool) → List (List Sector)
marked_sectors disks bad = map (λ s. s.content) (marked disks bad)

-- There is one mark for each sector of each disk, and no other.
abbrev pub AreMarksOf : List DiskState → List (List Bool) → Type 0
AreMarksOf disks bad = map length bad ≡ map (λ d. length d.sectors) disks

-- Devices as contracts see them: each device that has a disk gets the next of these.
abbrev pub seen_with : DeviceState → Option SectorsState → DeviceSeen
seen_with state disk = record { state = state; sectors = sectors_of disk; marks = marks_of disk; is_flushed = flushed_of disk; calls = calls_of disk }

abbrev pub next_disk : Option ℕ → List SectorsState → Option SectorsState
next_disk None disks = None
next_disk (Some size) [] = None
next_disk (Some size) (disk ∷ disks) = Some disk

abbrev pub seen_devices : List DeviceState → List SectorsState → List DeviceSeen
seen_devices [] disks = []
seen_devices (d ∷ ds) disks = seen_with d (next_disk (disk_size_of (made_as d.kind)) disks) ∷ seen_devices ds (left_over (disk_size_of (made_as d.kind)) disks)

-- A machine as it was saved, whose disks have these sectors in the order of the devices that have one.
abbrev pub saved_machine : List ℕ → List DeviceState → List (List Sector) → MachineState
saved_machine ram states disks = record { ram = ram; devices = states; disks = dealt_sectors (map (λ d. made_as d.kind) states) disks }
