-- A disk in a file.
use Rattle.std.specs.Prelude.{ℕ, Bool, false, replicate}
use Rattle.blk.specs.declared.disk.TheConstants.{SECTOR_SIZE}
use Rattle.blk.specs.Disk.{DiskState}

-- What is known of it: how many sectors it has, how often it failed, and whether it was flushed after its last write. No clause about a disk that is not honest says
-- what a sector holds, so the model has sectors of zeros for those of the file, which are not known.
abbrev pub file_state : ℕ → ℕ → Bool → DiskState
file_state count failures is_flushed = record { sectors = replicate count (replicate SECTOR_SIZE 0); failures = failures; honest = false; steady = false; is_flushed = is_flushed }
