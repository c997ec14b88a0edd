-- A block device: what it was made as, and its outstanding requests (VIRTIO 1.2, 5.2).
use Rattle.std.specs.Prelude.{ℕ, ◌^◌, nat_lt, Bool, true, false, List, [], length, if◌then◌else◌}
use Rattle.mmio.specs.Bits.{has}
use Rattle.blk.specs.declared.block.Block.{Block}
use Rattle.blk.specs.declared.request.Request.{Request}
use Rattle.blk.specs.declared.requests.TheConstants.{REQUESTS_MAX}
use Rattle.blk.specs.declared.shape.Limits.{Limits}

-- A new device, of which no request is outstanding.
abbrev pub first_block : ℕ → Bool → List ℕ → Block
first_block sectors read_only id = record { sectors = sectors; read_only = read_only; id = id; requests = [] }

-- The same device with other outstanding requests.
abbrev pub with_requests : Block → List Request → Block
with_requests b requests = record b { requests = requests }

-- There is room for one more request.
abbrev pub has_room : Block → Bool
has_room b = nat_lt (length b.requests) REQUESTS_MAX

-- The requests are dropped, unless the queue that they came from is ready.
abbrev pub dropped_unless : Bool → Block → Block
dropped_unless is_ready b = with_requests b (if is_ready then b.requests else [])

-- What a driver that accepted these features may ask for: bit 14 of them is WRITE_ZEROES (VIRTIO 1.2, 5.2.3).
abbrev pub limits_of : Block → ℕ → Limits
limits_of b features = record { sectors = b.sectors; read_only = b.read_only; may_clear = has features (2 ^ 14) }

-- What a driver may ask for at most, of a device with this many sectors.
abbrev pub widest : ℕ → Limits
widest sectors = record { sectors = sectors; read_only = false; may_clear = true }
