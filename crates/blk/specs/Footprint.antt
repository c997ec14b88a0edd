-- Which bytes of RAM the steps of a block device read, beside those of the look and the driver's word about interrupts.
use Rattle.std.specs.Prelude.{ℕ, ◌+◌, ◌*◌, List, [], Option, Some, None, take, drop, if◌then◌else◌}
use Rattle.chains.specs.Footprint.{place_pieces}
use Rattle.chains.specs.Places.{places}
use Rattle.chains.specs.declared.chain.Chain.{Chain}
use Rattle.chains.specs.declared.lacking.Piece.{Piece}
use Rattle.blk.specs.Request.{is_open}
use Rattle.blk.specs.declared.disk.TheConstants.{SECTOR_SIZE}
use Rattle.blk.specs.declared.request.Kind.{Kind}
use Rattle.blk.specs.declared.request.Kind.TheVariants as kind
use Rattle.blk.specs.declared.request.Request.{Request}
use Rattle.blk.specs.declared.request.TheConstants.{HEADER_SIZE, SEGMENT_SIZE}

-- Of a request that is taken: its header, and the segment that may follow it.
abbrev pub taken_pieces : ℕ → Chain → List Piece
taken_pieces base c = place_pieces base (take (HEADER_SIZE + SEGMENT_SIZE) (places c.readable))

-- Of one unit of a request: the bytes of the sector that a write writes next.
abbrev pub unit_pieces : Kind → ℕ → Request → List Piece
unit_pieces kind.Out base r = place_pieces base (take SECTOR_SIZE (drop (HEADER_SIZE + SECTOR_SIZE * r.done) (places r.readable)))
unit_pieces _ base r = []

-- Of a request that advances. One that ends reads no byte of its chain.
abbrev pub advance_pieces : ℕ → Option Request → List Piece
advance_pieces base None = []
advance_pieces base (Some r) = if is_open r then unit_pieces r.kind base r else []
