-- How frames are decoded. That this is the inverse of the encoding is proved in `proofs/`.
use Rattle.std.specs.Prelude.{ℕ, List, length, take, drop, nat_lt, not, ◌||◌, if◌then◌else◌, Option, Some, None}
use Rattle.guestmem.specs.Number.{number_at}
use Rattle.net.specs.Inbox.{is_frame_len}

-- The frame of `len` bytes at the front of the bytes, and the bytes after it.
abbrev pub frame_with : ℕ → List ℕ → Option (List ℕ × List ℕ)
frame_with len bytes = if nat_lt (length bytes) len then None else Some (take len bytes, drop len bytes)

-- The frame at the front of the bytes, of at most the longest, after its length in two bytes, and the bytes after the frame.
unfoldable pub frame_of : ℕ → List ℕ → Option (List ℕ × List ℕ)
frame_of longest bytes =
    if nat_lt (length bytes) 2 || not (is_frame_len longest (number_at bytes 0 2)) then None
    else frame_with (number_at bytes 0 2) (drop 2 bytes)
