-- Frames in the body of a network device. Every number is little-endian.
use Rattle.std.specs.Prelude.{ℕ, List, ◌++◌, length}
use Rattle.std.specs.List.{flat_map}
use Rattle.wire.specs.Numbers.{digits}

-- A frame: its length, in two bytes, and its bytes.
unfoldable pub frame_text : List ℕ → List ℕ
frame_text frame = digits 2 (length frame) ++ frame

-- Frames one after another, the oldest first, with their count before them in two bytes.
abbrev pub frames_text : List (List ℕ) → List ℕ
frames_text frames = digits 2 (length frames) ++ flat_map frame_text frames
