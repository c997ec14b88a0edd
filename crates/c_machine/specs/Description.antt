-- A description of devices, as C gets it.
use Rattle.std.specs.Prelude.{ℕ, List, [], ◌∷◌, ◌++◌, drop, length, map, max, replicate, if◌then◌else◌}
use Rattle.machine.specs.declared.machine.TheConstants.{DEVICES_MAX}
use Rattle.machine.specs.declared.shape.Shape.{Shape}
use Rattle.machine.specs.declared.shape.Shape.TheVariants.{Net, LongNet, Block, Outside, Console, Entropy}
use Rattle.c_machine.specs.Making.{no_shape}
use Rattle.c_machine.specs.declared.description.Description.{Description}
use Rattle.c_machine.specs.declared.device_shape.DeviceShape.{DeviceShape}

-- What a device was made as. What its kind does not need is zeros. A block device whose disk is outside has the kind 130.
abbrev pub described : Shape → DeviceShape
described (Net mac) = record no_shape { kind = 1; mac = mac }
described (LongNet mac longest) = record no_shape { kind = 1; mac = mac; frame = longest }
described (Block sectors read_only id) = record no_shape { kind = 2; read_only = if read_only then 1 else 0; sectors = sectors; id = id }
described (Outside sectors read_only id) = record no_shape { kind = 130; read_only = if read_only then 1 else 0; sectors = sectors; id = id }
described Console = record no_shape { kind = 3 }
described Entropy = record no_shape { kind = 4 }

-- Of nothing all is 0.
abbrev pub no_shapes : List DeviceShape
no_shapes = replicate DEVICES_MAX no_shape

abbrev pub nothing_told : Description
nothing_told = record {
  state = 0;
  lent = 0;
  pages = 0;
  count = 0;
  base = 0;
  flags = 0;
  calls_out = 0;
  rounds = 0;
  fault = 0;
  fault_at = 0;
  images = 0;
  lost = 0;
  message = 0;
  whole = 0;
  reserved = replicate 4 0;
  shapes = no_shapes;
}

-- It has these pages and devices. After the last device the shapes are zeros.
abbrev pub with_shapes : Description → ℕ → List Shape → Description
with_shapes d pages shapes = record d { pages = pages; count = length shapes; shapes = map described shapes ++ drop (length shapes) d.shapes }

-- The most bytes that a step of such a device sends: those of a frame, or of a console's text.
abbrev pub message_for : Shape → ℕ
message_for (Net mac) = 1514
message_for (LongNet mac longest) = longest
message_for (Block sectors read_only id) = 0
message_for (Outside sectors read_only id) = 0
message_for Console = 65536
message_for Entropy = 0

abbrev pub message_of : List Shape → ℕ
message_of [] = 0
message_of (shape ∷ shapes) = max (message_for shape) (message_of shapes)
