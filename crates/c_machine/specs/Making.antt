-- Devices that C asks for.
use Rattle.std.specs.Prelude.{ℕ, ◌%◌, ◌==◌, ◌||◌, ◌&&◌, not, nat_lt, Bool, true, List, [], ◌∷◌, length, map, replicate, Some, if◌then◌else◌}
use Rattle.blk.specs.Sectors.{Sector}
use Rattle.machine.specs.Shapes.{is_beyond}
use Rattle.machine.specs.declared.limits.Limits.{Limits}
use Rattle.machine.specs.declared.machine.TheConstants.{DEVICES_MAX}
use Rattle.machine.specs.declared.shape.Shape.{Shape}
use Rattle.machine.specs.declared.shape.Shape.TheVariants.{Net, LongNet, Block, Outside, Console, Entropy}
use Rattle.c_machine.specs.Named.{are_zeros}
use Rattle.c_machine.specs.declared.device_shape.DeviceShape.{DeviceShape}

-- The kinds are the standard's numbers (VIRTIO 1.2, 5): 1 a network device, 2 a block device, 3 a console, 4 an entropy
-- device; and 130, a block device whose disk is outside.
abbrev pub is_known : ℕ → Bool
is_known kind = kind == 1 || kind == 2 || kind == 3 || kind == 4 || kind == 130

-- A longest frame of 1,514 bytes, which 0 says too, is that of a network device without an MTU.
abbrev pub is_usual_frame : ℕ → Bool
is_usual_frame frame = frame == 0 || frame == 1514

abbrev pub shape_of : DeviceShape → Shape
shape_of s =
    if s.kind == 1 then (if is_usual_frame s.frame then Net s.mac else LongNet s.mac (s.frame % 65536))
    else if s.kind == 2 then Block s.sectors (not (s.read_only == 0)) s.id else if s.kind == 3 then Console
    else if s.kind == 130 then Outside s.sectors (not (s.read_only == 0)) s.id else Entropy

abbrev pub shapes_of : List DeviceShape → List Shape
shapes_of shapes = map shape_of shapes

-- That of no device.
abbrev pub no_shape : DeviceShape
no_shape = record { kind = 0; read_only = 0; mac = replicate 6 0; sectors = 0; id = replicate 20 0; frame = 0; reserved = replicate 2 0 }

-- Nothing is said of a disk.
abbrev pub has_no_disk : DeviceShape → Bool
has_no_disk s = s.read_only == 0 && (s.sectors == 0 && are_zeros s.id)

-- What its kind does not need is 0, and so is what no kind needs yet. Whether a disk is read-only is 1 or 0.
abbrev pub has_only : DeviceShape → Bool
has_only s = (s.kind == 1 || are_zeros s.mac) && ((s.kind == 2 || s.kind == 130 || has_no_disk s) && (not (nat_lt 1 s.read_only) && ((s.frame == 0 || (s.kind == 1 && nat_lt s.frame 65536)) && are_zeros s.reserved)))

-- A device of a known kind within these limits, of which nothing else is said.
abbrev pub is_plain : Limits → DeviceShape → Bool
is_plain limits s = has_only s && (is_known s.kind && not (is_beyond limits (shape_of s)))

abbrev pub are_plain : Limits → List DeviceShape → Bool
are_plain limits [] = true
are_plain limits (s ∷ shapes) = is_plain limits s && are_plain limits shapes

-- The devices are not 1 to 16, or not all plain.
abbrev pub are_bad_shapes : Limits → List DeviceShape → Bool
are_bad_shapes limits shapes = length shapes == 0 || nat_lt DEVICES_MAX (length shapes) || not (are_plain limits shapes)

-- A disk of zeros, all its sectors good.
abbrev pub zero_sectors : ℕ → List Sector
zero_sectors count = replicate count (Some (replicate 512 0))
