-- How an inbox keeps frames: each in room of its own, which is made with the inbox.
use Rattle.std.specs.Prelude.{◌≡◌, ◌+◌, ◌≤◌, ℕ, List, length, map, All}
use Rattle.net.specs.Inbox.{IsFrame, most_waiting}

-- A frame that is kept, and how long a one has room there.
pub record Kept : Type 0 where
  pub bytes : List ℕ
  pub room : ℕ

abbrev pub bytes_of : Kept → List ℕ
bytes_of kept = kept.bytes

-- The longest frame has room.
abbrev pub HasRoom : ℕ → Kept → Type 0
HasRoom longest kept = longest ≤ kept.room

-- What holds of the frames that are kept, of which there may be this many, and of the rooms of none, for which there are this many places.
pub record AreKept (longest most : ℕ) (frames spare : List Kept) (places : ℕ) : Type 0 where
  pub most_are : most ≡ most_waiting longest
  pub each : length frames + length spare ≡ most
  pub placed : most ≤ places
  pub rooms : All (HasRoom longest) frames
  pub spares : All (HasRoom longest) spare
  pub are : All (IsFrame longest) (map bytes_of frames)
