-- How long the frames of devices are.
use Rattle.std.specs.Prelude.{ℕ, ◌||◌, nat_lt, Bool, false, List, [], ◌∷◌, max}
use Rattle.machine.specs.declared.shape.Shape.{Shape}
use Rattle.machine.specs.declared.shape.Shape.TheVariants.{Net, LongNet, Block, Outside, Console, Entropy}

-- It is a network device for frames longer than this many bytes.
abbrev pub is_longer : ℕ → Shape → Bool
is_longer most (LongNet mac longest) = nat_lt most longest
is_longer most (Net mac) = false
is_longer most (Block sectors read_only id) = false
is_longer most (Outside sectors read_only id) = false
is_longer most Console = false
is_longer most Entropy = false

-- One of them is.
abbrev pub has_longer_frames : ℕ → List Shape → Bool
has_longer_frames most [] = false
has_longer_frames most (shape ∷ shapes) = is_longer most shape || has_longer_frames most shapes

-- The bytes of the longest frame of a network device for long ones; 0 of another device.
abbrev pub long_frame : Shape → ℕ
long_frame (LongNet mac longest) = longest
long_frame (Net mac) = 0
long_frame (Block sectors read_only id) = 0
long_frame (Outside sectors read_only id) = 0
long_frame Console = 0
long_frame Entropy = 0

-- Those of the longest; 0 where there is none.
abbrev pub longest_frame : List Shape → ℕ
longest_frame [] = 0
longest_frame (shape ∷ shapes) = max (long_frame shape) (longest_frame shapes)
