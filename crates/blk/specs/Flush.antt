-- A flush that fails: the bytes of the disk did not reach the file that holds them.
use Rattle.std.specs.Prelude.{ℕ, ◌&&◌, Bool, true, false, List, slice_get, slice_set, Option, Some, None, if◌then◌else◌}
use Rattle.blk.specs.Block.{with_requests}
use Rattle.blk.specs.Move.{move_flush}
use Rattle.blk.specs.declared.block.Block.{Block}
use Rattle.blk.specs.Request.{is_open}
use Rattle.blk.specs.declared.request.Kind.{Kind}
use Rattle.blk.specs.declared.request.Kind.TheVariants.{Flush}
use Rattle.blk.specs.declared.request.Request.{Request}

abbrev pub is_flush : Kind → Bool
is_flush Flush = true
is_flush _ = false

-- The next unit of the request flushes the disk.
abbrev pub flushes : Request → Bool
flushes r = is_open r && is_flush r.kind

abbrev pub flushes_in : Option Request → Bool
flushes_in None = false
flushes_in (Some r) = flushes r

-- The k-th outstanding request, from 0, flushes the disk next.
abbrev pub flushes_at : Block → ℕ → Bool
flushes_at b k = flushes_in (slice_get b.requests k)

abbrev pub failed_if_flush : List Request → ℕ → Option Request → List Request
failed_if_flush requests k None = requests
failed_if_flush requests k (Some r) = if flushes r then slice_set requests k (move_flush r false).request else requests

-- The device after the k-th request, from 0, made its flush and the disk failed. A request that flushes nothing next stays as it was.
abbrev pub flush_failed : Block → ℕ → Block
flush_failed b k = with_requests b (failed_if_flush b.requests k (slice_get b.requests k))
