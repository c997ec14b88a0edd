-- Requests (VIRTIO 1.2, 5.2.6).
use Rattle.std.specs.Prelude.{ℕ, ◌+◌, nat_lt, ◌&&◌, Bool, true, false}
use Rattle.blk.specs.declared.request.Verdict.{Verdict}
use Rattle.blk.specs.declared.request.Verdict.TheVariants.{Good, IoError, Unsupported}
use Rattle.blk.specs.declared.request.Request.{Request}

-- The byte that reports a verdict to the driver.
abbrev pub verdict_byte : Verdict → ℕ
verdict_byte Good = 0
verdict_byte IoError = 1
verdict_byte Unsupported = 2

abbrev pub is_good : Verdict → Bool
is_good Good = true
is_good _ = false

-- A request with no error yet and units to do.
abbrev pub is_open : Request → Bool
is_open r = is_good r.verdict && nat_lt r.done r.units

-- The sector of the next unit of a request.
abbrev pub next_sector : Request → ℕ
next_sector r = r.first + r.done
