-- What a machine that will arrive asks for by its struct: why that is refused.
use Rattle.std.specs.Prelude.{◌≡◌, ℕ, ◌==◌, ◌&&◌, ◌||◌, not, nat_lt, if◌then◌else◌, Bool, false, List, length, max, Option, Some, None}
use Rattle.machine.specs.First.{are_same, is_base}
use Rattle.machine.specs.Limits.{greatest, usual}
use Rattle.machine.specs.Shapes.{disk_sizes}
use Rattle.machine.specs.declared.limits.Limits.{Limits}
use Rattle.machine.specs.declared.machine.TheConstants.{DEVICES_MAX}
use Rattle.c_machine.specs.Frames.{longest_frame}
use Rattle.c_machine.specs.Made.{are_known_arriving, arrival_limits, asks_large, has_bytes, is_known_frame, is_ram, limits_for}
use Rattle.c_machine.specs.Making.{are_plain, is_usual_frame, shapes_of}
use Rattle.c_machine.specs.Mapping.{counts}
use Rattle.c_machine.specs.Named.{are_zeros}
use Rattle.c_machine.specs.Outside.{largest_outside}
use Rattle.c_machine.specs.Status.{bad_base, bad_images, bad_ram, bad_shape, not_known}
use Rattle.c_machine.specs.declared.device_shape.DeviceShape.{DeviceShape}
use Rattle.c_machine.specs.declared.setup.Expected.{Expected}

-- It names memory that RAM is to be, or images.
abbrev pub has_ram : Expected → Bool
has_ram e = has_bytes e.ram

abbrev pub has_images : Expected → Bool
has_images e = not (length e.images.now == 0)

-- The version is 1, and what no version gives a meaning yet is 0.
abbrev pub is_known_arrival : Expected → Bool
is_known_arrival e = e.version == 1 && (are_known_arriving e.flags && (is_known_frame e.flags e.frame && (e.zero == 0 && are_zeros e.reserved)))

-- How many sectors a disk outside may have at most: as many as the arrival allows, or one of the devices has that it names.
abbrev pub outside_allowed : Expected → ℕ
outside_allowed e = max e.most_outside (largest_outside (shapes_of e.shapes.now))

-- How many bytes a frame of a network device for long ones may have at most; 0 where there may be no such device: as many as the arrival allows, or one
-- of the devices is for that it names. Only an arrival of a large machine allows any.
abbrev pub frame_allowed : Expected → ℕ
frame_allowed e = if asks_large e.flags then max (if is_usual_frame e.frame then 0 else e.frame) (longest_frame (shapes_of e.shapes.now)) else 0

-- How large a machine may be whose header is read. What version 3 alone can tell, long frames and disks outside, a header may tell of any size,
-- where the arrival allows some of it.
abbrev pub header_limits : ℕ → ℕ → ℕ → Limits
header_limits flags frame outside =
    record (limits_for flags) { frame = if frame == 0 && outside == 0 then usual.frame else greatest.frame; outside = if frame == 0 && outside == 0 then usual.outside else greatest.outside }

-- These bytes of the caller, where there are any, are no RAM, or pages are allowed beside them.
abbrev pub is_unfit_ram : Limits → ℕ → ℕ → Bool
is_unfit_ram limits most_pages bytes = not (bytes == 0) && (not (most_pages == 0) || not (is_ram limits bytes))

-- The devices that are expected are more than 16, or not all plain.
abbrev pub are_unfit_shapes : Limits → List DeviceShape → Bool
are_unfit_shapes limits shapes = nat_lt DEVICES_MAX (length shapes) || not (are_plain limits shapes)

-- There are images, and not those of the devices that are expected.
abbrev pub are_other_images : Expected → Bool
are_other_images e =
    if length e.images.now == 0 || length e.shapes.now == 0 then false else not (are_same (disk_sizes (shapes_of e.shapes.now)) (counts e.images.now))

-- Why no machine will arrive, in this order, apart from memory being refused.
abbrev pub arrival_refusal_of : Expected → Option ℕ
arrival_refusal_of e =
    if not (is_known_arrival e) then Some not_known
    else if is_unfit_ram (arrival_limits e.flags (frame_allowed e)) e.most_pages (length e.ram.content) then Some bad_ram
    else if are_unfit_shapes (arrival_limits e.flags (frame_allowed e)) e.shapes.now then Some bad_shape
    else if not (is_base e.base (length e.ram.content)) then Some bad_base
    else if are_other_images e then Some bad_images
    else None

-- Neither RAM nor images were taken.
pub record IsUntaken (e next : Expected) : Type 0 where
  pub ram_same : next.ram ≡ e.ram
  pub images_same : next.images.now ≡ e.images.now
