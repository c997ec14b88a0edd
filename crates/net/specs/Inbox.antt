-- Frames that the host queues for the guest.
use Rattle.std.specs.Prelude.{ℕ, nat_lt, ◌≤◌, ◌/◌, ◌&&◌, Bool, not, List, [], ◌∷◌, ◌++◌, length, All, if◌then◌else◌}
use Rattle.guestmem.specs.Number.{IsBytes}
use Rattle.net.specs.declared.limits.TheConstants.{FRAME_MIN, FRAME_MAX, INBOX_BYTES, INBOX_MAX}

-- The inbox of a network device: the most bytes that a frame of the device may have, and the frames that wait for the guest, the
-- oldest first.
pub record Inbox : Type 0 where
  pub longest : ℕ
  pub frames : List (List ℕ)

-- No frames wait.
abbrev pub no_frames : ℕ → Inbox
no_frames longest = record { longest = longest; frames = [] }

-- How many frames may wait in an inbox whose longest frame has this many bytes: 64 of at most 1,514 bytes, and of longer ones as many
-- as these 64 have bytes for.
abbrev pub most_waiting : ℕ → ℕ
most_waiting longest = if nat_lt FRAME_MAX longest then INBOX_BYTES / longest else INBOX_MAX

-- A frame: from FRAME_MIN bytes to the longest.
pub record IsFrame (longest : ℕ) (bytes : List ℕ) : Type 0 where
  pub long : FRAME_MIN ≤ length bytes
  pub short : length bytes ≤ longest
  pub are : IsBytes bytes

-- Whether a frame may have `len` bytes.
abbrev pub is_frame_len : ℕ → ℕ → Bool
is_frame_len longest len = not (nat_lt len FRAME_MIN) && not (nat_lt longest len)

-- Frames that can wait in an inbox: no more than may, and none longer than the longest.
pub record AreFrames (inbox : Inbox) : Type 0 where
  pub few : length inbox.frames ≤ most_waiting inbox.longest
  pub are : All (IsFrame inbox.longest) inbox.frames

-- How many bytes of a frame are accepted: all of them if there is room for one more frame, else none.
abbrev pub kept_of : Inbox → List ℕ → ℕ
kept_of inbox frame = if nat_lt (length inbox.frames) (most_waiting inbox.longest) then length frame else 0

-- The frames with one more at the end, if there is room.
abbrev pub frames_with : Inbox → List ℕ → List (List ℕ)
frames_with inbox frame = if nat_lt (length inbox.frames) (most_waiting inbox.longest) then inbox.frames ++ frame ∷ [] else inbox.frames
