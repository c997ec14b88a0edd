-- When what a driver wrote has to be durable (VIRTIO 1.2, 5.2.6.2).
use Rattle.std.specs.Prelude.{ℕ, ◌==◌, ◌&&◌, ◌^◌, not, Bool, true, false, if◌then◌else◌, Option, Some, None, slice_get}
use Rattle.mmio.specs.Bits.{has}
use Rattle.blk.specs.Flush.{flushes}
use Rattle.blk.specs.Request.{is_good}
use Rattle.blk.specs.declared.block.Block.{Block}
use Rattle.blk.specs.declared.durable.SyncOwed.{SyncOwed}
use Rattle.blk.specs.declared.durable.SyncOwed.TheVariants.{Nothing, Flush, EndOfWrite}
use Rattle.blk.specs.declared.request.Kind.{Kind}
use Rattle.blk.specs.declared.request.Kind.TheVariants as kinds
use Rattle.blk.specs.declared.request.Request.{Request}

-- It writes sectors: those of the driver's data, or zeros.
abbrev pub is_write : Kind → Bool
is_write kinds.Out = true
is_write kinds.Zero = true
is_write _ = false

-- All that such a request asks for was done, and its next step ends it. Where the driver did not accept FLUSH, bit 9, that end says that
-- what was written is durable.
abbrev pub ends_write : ℕ → Request → Bool
ends_write features r = is_good r.verdict && (r.done == r.units && (is_write r.kind && not (has features (2 ^ 9))))

-- What the next step of the request owes, where the driver accepted these features.
abbrev pub owed_by : ℕ → Request → SyncOwed
owed_by features r = if flushes r then Flush else if ends_write features r then EndOfWrite else Nothing

abbrev pub owed_if : ℕ → Option Request → SyncOwed
owed_if features None = Nothing
owed_if features (Some r) = owed_by features r

-- What the next step of the k-th outstanding request, from 0, owes.
abbrev pub owed_at : ℕ → Block → ℕ → SyncOwed
owed_at features b k = owed_if features (slice_get b.requests k)

abbrev pub is_flush_owed : SyncOwed → Bool
is_flush_owed Flush = true
is_flush_owed _ = false
