-- One making: why what a setup asks for is refused, and the machine that it asks for.
use Rattle.std.specs.Prelude.{◌≡◌, ℕ, ◌*◌, ◌/◌, ◌%◌, ◌==◌, ◌&&◌, ◌||◌, not, nat_lt, if◌then◌else◌, Bool, true, false, List, [], length, map, max, Option, Some, None}
use denote.RawPtr.{Ptr}
use Rattle.region.specs.Empty.{empty_slot}
use Rattle.region.specs.Address.{address}
use Rattle.region.specs.Slot.{region_of, slot_of}
use Rattle.region.specs.declared.slot.Slot.{Slot}
use Rattle.guestmem.specs.declared.limits.TheConstants.{PAGE_SIZE}
use Rattle.machine.specs.First.{are_same, is_base, made_machine, zero_pages}
use Rattle.machine.specs.Limits.{greatest, usual}
use Rattle.machine.specs.Seen.{Seen, state_of}
use Rattle.machine.specs.Shapes.{disk_sizes}
use Rattle.machine.specs.Sound.{IsSound}
use Rattle.machine.specs.declared.board.RamOf.{RamOf}
use Rattle.machine.specs.declared.board.RamOf.TheVariants.{Pages, Region}
use Rattle.machine.specs.declared.limits.Limits.{Limits}
use Rattle.machine.specs.declared.shape.Shape.{Shape}
use Rattle.c_machine.specs.Images.{AreImages, image_size}
use Rattle.c_machine.specs.Making.{are_bad_shapes, is_usual_frame, shapes_of, zero_sectors}
use Rattle.c_machine.specs.Mapping.{contents, counts}
use Rattle.c_machine.specs.Named.{are_zeros}
use Rattle.c_machine.specs.Plain.{ArePlain}
use Rattle.c_machine.specs.Status.{bad_base, bad_images, bad_ram, bad_shape, not_known}
use Rattle.c_machine.specs.declared.setup.Setup.{Setup}

-- The slot names memory.
abbrev pub has_bytes : Slot → Bool
has_bytes ram = not (length ram.content == 0)

-- It names memory that RAM is to be, contents of disks, or images.
abbrev pub has_ram : Setup → Bool
has_ram s = has_bytes s.ram

abbrev pub has_contents : Setup → Bool
has_contents s = not (length s.contents.now == 0)

abbrev pub has_images : Setup → Bool
has_images s = not (length s.images.now == 0)

-- Bit 0: a machine as large as its stream can tell is asked for. Bit 1: a log of the pages that calls write. Bit 2, of a machine that arrives: its
-- host tells the digest. No other bit is known.
abbrev pub asks_large : ℕ → Bool
asks_large flags = flags % 2 == 1

abbrev pub asks_log : ℕ → Bool
asks_log flags = flags / 2 % 2 == 1

abbrev pub asks_told : ℕ → Bool
asks_told flags = flags / 4 % 2 == 1

abbrev pub are_known : ℕ → Bool
are_known flags = not (nat_lt 3 flags)

abbrev pub are_known_arriving : ℕ → Bool
are_known_arriving flags = not (nat_lt 7 flags)

-- How large a machine may be that is made, or let arrive, with these flags. A disk outside is as large as can be: it takes no memory.
abbrev pub small : Limits
small = record usual { outside = greatest.outside }

abbrev pub limits_for : ℕ → Limits
limits_for flags = if asks_large flags then greatest else small

-- How large a machine may be that an arrival names: where it names a longest frame, one of its devices may have any.
abbrev pub arrival_limits : ℕ → ℕ → Limits
arrival_limits flags frame = record (limits_for flags) { frame = if frame == 0 then usual.frame else greatest.frame }

-- It names none, or 1,514 bytes, or, for a large machine, up to 65,535.
abbrev pub is_known_frame : ℕ → ℕ → Bool
is_known_frame flags frame = is_usual_frame frame || (asks_large flags && (nat_lt 1514 frame && nat_lt frame 65536))

-- The version is 1, and what no version gives a meaning yet is 0.
abbrev pub is_known_setup : Setup → Bool
is_known_setup s = s.version == 1 && (are_known s.flags && are_zeros s.reserved)

-- The sectors of a block of the storage of disks outside: 0 is 1.
abbrev pub block_size : ℕ → ℕ
block_size block = max block 1

-- The bytes of RAM that are asked for: those of the caller's memory, or those of the pages, where there is none.
abbrev pub ram_bytes : ℕ → ℕ → ℕ
ram_bytes pages bytes = if bytes == 0 then PAGE_SIZE * pages else bytes

-- These bytes are whole pages, and as many as a machine within these limits may have.
abbrev pub is_ram : Limits → ℕ → Bool
is_ram limits bytes = bytes % PAGE_SIZE == 0 && (not (bytes / PAGE_SIZE == 0) && not (nat_lt limits.pages (bytes / PAGE_SIZE)))

-- They are none; or RAM of the caller has these bytes, and pages are asked for, but not as many.
abbrev pub is_bad_ram : Limits → ℕ → ℕ → Bool
is_bad_ram limits pages bytes = not (is_ram limits (ram_bytes pages bytes)) || (not (bytes == 0) && (not (pages == 0) && not (PAGE_SIZE * pages == bytes)))

-- By whether there are images, and contents: there are both; or the images are not those of the disks, or the contents not as long as they.
abbrev pub are_others : Bool → Bool → Setup → Bool
are_others true with_contents s = with_contents || not (are_same (disk_sizes (shapes_of s.shapes.now)) (counts s.images.now))
are_others false true s = not (length s.contents.now == image_size (shapes_of s.shapes.now))
are_others false false s = false

abbrev pub are_other_disks : Setup → Bool
are_other_disks s = are_others (has_images s) (has_contents s) s

-- Why it is refused, in this order, apart from memory being refused.
abbrev pub setup_refusal_of : Setup → Option ℕ
setup_refusal_of s =
    if not (is_known_setup s) then Some not_known
    else if is_bad_ram (limits_for s.flags) s.pages (length s.ram.content) then Some bad_ram
    else if are_bad_shapes (limits_for s.flags) s.shapes.now then Some bad_shape
    else if not (is_base s.base (ram_bytes s.pages (length s.ram.content))) then Some bad_base
    else if are_other_disks s then Some bad_images
    else None

-- Where the bytes lie that a slot names.
abbrev pub place_of : Slot → Ptr
place_of ram = address (region_of ram)

-- RAM as it is first: the bytes of the caller's memory, which lie where they lay; or pages of zeros, in memory of the library.
abbrev pub ram_if : Bool → ℕ → List ℕ → List ℕ
ram_if true pages bytes = bytes
ram_if false pages bytes = zero_pages pages

abbrev pub first_ram : ℕ → Slot → List ℕ
first_ram pages ram = ram_if (has_bytes ram) pages ram.content

abbrev pub place_if : Bool → Slot → Option Ptr
place_if true ram = Some (place_of ram)
place_if false ram = None

abbrev pub first_place : Slot → Option Ptr
first_place ram = place_if (has_bytes ram) ram

-- What is left in the slot, where it was taken.
abbrev pub ram_left : Bool → Slot → Slot
ram_left true ram = empty_slot
ram_left false ram = ram

-- The slot is free for what RAM is made of, if that lay in it; and what the slot is once that was put back.
abbrev pub IsFreeFor : RamOf → Slot → Type 0
IsFreeFor (Pages pages) ram = Unit {0}
IsFreeFor (Region region) ram = ram.content ≡ []

abbrev pub slot_after : RamOf → Slot → Slot
slot_after (Pages pages) ram = ram
slot_after (Region region) ram = slot_of region

-- The disks in memory of the library: they hold the contents, one after another, or zeros.
abbrev pub AreOwn : Bool → List ℕ → List Shape → List (List (List ℕ)) → Type 0
AreOwn true contents shapes disks = AreImages contents (disk_sizes shapes) disks
AreOwn false contents shapes disks = map (map Some) disks ≡ map zero_sectors (disk_sizes shapes)

abbrev pub AreOwnDisks : List ℕ → List Shape → List (List (List ℕ)) → Type 0
AreOwnDisks contents shapes disks = AreOwn (not (length contents == 0)) contents shapes disks

-- The contents, if there are any, are as long as the disks.
abbrev pub fit_contents : List ℕ → List Shape → Type 0
fit_contents contents shapes = (length contents == 0) ≡ false → length contents ≡ image_size shapes

-- The disks: the images, or those in memory of the library.
abbrev pub AreFirst : Bool → Setup → List (List (List ℕ)) → Type 0
AreFirst true s disks = disks ≡ contents s.images.now
AreFirst false s disks = AreOwnDisks s.contents.now (shapes_of s.shapes.now) disks

-- The machine that is made, of one equation.
pub record IsFirstOf (s : Setup) (machine : Seen) : Type 0 where
  pub disks : List (List (List ℕ))
  pub disks_are : AreFirst (has_images s) s disks
  pub first : state_of machine ≡ made_machine s.base (first_ram s.pages s.ram) (shapes_of s.shapes.now) (map (map Some) disks)
  pub place : machine.memory.place ≡ first_place s.ram
  pub plain : ArePlain machine
  pub sound : IsSound (state_of machine)

-- Neither RAM nor images were taken.
pub record IsUntaken (s next : Setup) : Type 0 where
  pub ram_same : next.ram ≡ s.ram
  pub images_same : next.images.now ≡ s.images.now
