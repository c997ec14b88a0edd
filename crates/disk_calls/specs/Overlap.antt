-- Calls of a disk that may not be out together.
use Rattle.std.specs.Prelude.{ℕ, ◌+◌, ◌-◌, ◌/◌, ◌&&◌, nat_le, Bool, true, false, if◌then◌else◌}
use Rattle.blk.specs.declared.outside.What.{What}
use Rattle.blk.specs.declared.outside.What.TheVariants as to
use Rattle.blk.specs.declared.outside.DiskCall.{DiskCall}

abbrev pub is_flush : What → Bool
is_flush to.Read = false
is_flush to.Write = false
is_flush to.Clear = false
is_flush to.Flush = true

-- The block of the host's storage, which has blocks of `size` sectors, in which a call begins.
abbrev pub first_block : ℕ → DiskCall → ℕ
first_block size call = call.first / size

-- The block in which its last sector lies.
abbrev pub last_block : ℕ → DiskCall → ℕ
last_block size call = (call.first + call.count - 1) / size

-- Two calls overlap where a block of the host's storage has sectors of both: a host that writes whole blocks would lose one of two writes into one.
-- A flush overlaps flushes alone.
abbrev pub overlap : ℕ → DiskCall → DiskCall → Bool
overlap size a b =
    if is_flush a.what then is_flush b.what
    else if is_flush b.what then false
    else nat_le (first_block size a) (last_block size b) && nat_le (first_block size b) (last_block size a)
