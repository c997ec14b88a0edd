-- What a host is handed of a write, for a buffer of its own.
use Rattle.std.specs.Prelude.{ℕ, ◌*◌, min, Option, Some, None, if◌then◌else◌}
use Rattle.blk.specs.Outside.{units_left}
use Rattle.blk.specs.Request.{is_open}
use Rattle.blk.specs.declared.disk.TheConstants.{SECTOR_SIZE}
use Rattle.blk.specs.declared.request.Kind.{Kind}
use Rattle.blk.specs.declared.request.Kind.TheVariants as kind
use Rattle.blk.specs.declared.request.Request.{Request}

-- The number of bytes that a request of this kind writes in this many units: those of its driver. One that clears writes none of these.
abbrev pub bytes_in : Kind → ℕ → ℕ
bytes_in kind.Out units = SECTOR_SIZE * units
bytes_in kind.In units = 0
bytes_in kind.Zero units = 0
bytes_in kind.Flush units = 0
bytes_in kind.GetId units = 0
bytes_in kind.Refused units = 0

-- How many bytes a request has to write, into a buffer of `len` bytes: all that it has left, or as many as the buffer holds.
abbrev pub count_to_write : Request → ℕ → ℕ
count_to_write r len = if is_open r then min len (bytes_in r.kind (units_left r)) else 0

abbrev pub count_to_write_in : Option Request → ℕ → ℕ
count_to_write_in None len = 0
count_to_write_in (Some r) len = count_to_write r len
