-- How the body of a device is decoded. That this is the inverse of the encoding is proved in `proofs/`.
use Rattle.std.specs.Prelude.{ℕ, zero, suc, ◌+◌, ◌*◌, ◌≤◌, ◌==◌, ◌||◌, not, nat_eq, nat_lt, if◌then◌else◌, List, [], ◌∷◌, drop, length, Option, Some, None, Bool}
use Rattle.std.specs.Option.{option_map}
use Rattle.guestmem.specs.Number.{number_at}
use Rattle.blk.specs.declared.block.Block.{Block}
use Rattle.blk.specs.declared.request.Request.{Request}
use Rattle.blk.specs.declared.requests.TheConstants.{REQUESTS_MAX}
use Rattle.chains.specs.declared.position.Positions.{Positions}
use Rattle.console.specs.declared.host_bytes.TheConstants.{HOST_BYTES_MAX}
use Rattle.console.specs.declared.size.ConsoleSize.{ConsoleSize}
use Rattle.net.specs.Inbox.{most_waiting}
use Rattle.net.specs.declared.limits.TheConstants.{FRAME_MAX}
use Rattle.mmio.specs.State.{first_queue, first_common}
use Rattle.mmio.specs.declared.common.Common.{Common}
use Rattle.mmio.specs.declared.queue.Queue.{Queue}
use Rattle.wire.specs.DeviceBody.{common_widths, queue_widths, size_widths}
use Rattle.wire.specs.FrameReading.{frame_of}
use Rattle.wire.specs.Numbers.{numbers}
use Rattle.wire.specs.RequestReading.{request_of}
use Rattle.wire.specs.Several.{several}
use Rattle.machine.specs.QueuePositions.{first_positions}
use Rattle.machine.specs.Shapes.{first_size, queues_of, saved_device}
use Rattle.machine.specs.State.{DeviceState}
use Rattle.machine.specs.declared.kind.Kind.{Kind}
use Rattle.machine.specs.declared.kind.Kind.TheVariants as kinds
use Rattle.machine.specs.declared.shape.Shape.{Shape}
use Rattle.machine.specs.declared.shape.Shape.TheVariants as shapes

abbrev pub common_from : List ℕ → Common
common_from (a ∷ b ∷ c ∷ d ∷ e ∷ f ∷ g ∷ rest) = record { status = a; interrupts = b; device_select = c; driver_select = d; features = e; queue_select = f; generation = g }
common_from numbers = first_common 0

-- The common registers in the first 26 bytes.
unfoldable pub common_of : List ℕ → Common
common_of bytes = common_from (numbers common_widths 0 bytes)

abbrev pub queue_from : List ℕ → Queue
queue_from (a ∷ b ∷ c ∷ d ∷ e ∷ f ∷ rest) = record { size = a; descriptors = b; driver = c; device = d; is_ready = nat_eq e 1; is_notified = nat_eq f 1 }
queue_from numbers = first_queue

abbrev pub positions_from : List ℕ → Positions
positions_from (a ∷ b ∷ c ∷ d ∷ e ∷ f ∷ g ∷ h ∷ i ∷ j ∷ rest) = record { taking = record { place = g; wrap = nat_eq h 1 }; used = record { place = i; wrap = nat_eq j 1 } }
positions_from numbers = first_positions

-- The queue in the first 36 bytes, and its positions.
unfoldable pub queue_of : List ℕ → Queue
queue_of bytes = queue_from (numbers queue_widths 0 bytes)

unfoldable pub positions_of : List ℕ → Positions
positions_of bytes = positions_from (numbers queue_widths 0 bytes)

-- Each flag of the queue in the first 36 bytes is 0 or 1.
pub record HasFlags (bytes : List ℕ) : Type 0 where
  pub ready : number_at bytes 28 1 ≤ 1
  pub notified : number_at bytes 29 1 ≤ 1
  pub taking : number_at bytes 32 1 ≤ 1
  pub used : number_at bytes 35 1 ≤ 1

-- The first n queues, of 36 bytes each, then their positions, and that each of their flags is 0 or 1.
unfoldable pub queues_in : ℕ → List ℕ → List Queue
queues_in zero bytes = []
queues_in (suc n) bytes = queue_of bytes ∷ queues_in n (drop 36 bytes)

unfoldable pub positions_in : ℕ → List ℕ → List Positions
positions_in zero bytes = []
positions_in (suc n) bytes = positions_of bytes ∷ positions_in n (drop 36 bytes)

abbrev pub HaveFlags : ℕ → List ℕ → Type 0
HaveFlags zero bytes = Unit {0}
HaveFlags (suc n) bytes = HasFlags bytes × HaveFlags n (drop 36 bytes)

-- The bytes are long enough for the common registers and `queues` queues, whose flags are 0 or 1.
pub record HasFront (queues : ℕ) (bytes : List ℕ) : Type 0 where
  pub long : 26 + 36 * queues ≤ length bytes
  pub flags : HaveFlags queues (drop 26 bytes)

-- What has all these, if no bytes follow them.
abbrev pub all_of : {A B : Type 0} → (List A → B) → Option (List A × List ℕ) → Option B
all_of has None = None
all_of has (Some found) = if length found.1 == 0 then Some (has found.0) else None

-- A network device with this MAC, this longest frame, and these frames.
abbrev pub net_with : List ℕ → ℕ → List (List ℕ) → Kind
net_with mac longest frames = kinds.Network mac (record { longest = longest; frames = frames })

-- A network device with this MAC and this longest frame: its frames.
unfoldable pub net_kind_in : List ℕ → ℕ → List ℕ → Option Kind
net_kind_in mac longest bytes =
    if nat_lt (length bytes) 2 || nat_lt (most_waiting longest) (number_at bytes 0 2) then None
    else all_of (net_with mac longest) (several (frame_of longest) (number_at bytes 0 2) (drop 2 bytes))

-- A block device that was made as this, with these requests.
abbrev pub block_with : ℕ → Bool → List ℕ → List Request → Block
block_with sectors read_only id requests = record { sectors = sectors; read_only = read_only; id = id; requests = requests }

-- A block device that was made as this: its requests.
unfoldable pub block_in : ℕ → Bool → List ℕ → List ℕ → Option Block
block_in sectors read_only id [] = None
block_in sectors read_only id (count ∷ bytes) = if nat_lt REQUESTS_MAX count then None else all_of (block_with sectors read_only id) (several request_of count bytes)

-- One with its disk in the machine, and one with its disk outside: they are read alike.
abbrev pub block_kind_in : ℕ → Bool → List ℕ → List ℕ → Option Kind
block_kind_in sectors read_only id bytes = option_map kinds.Block (block_in sectors read_only id bytes)

abbrev pub outside_kind_in : ℕ → Bool → List ℕ → List ℕ → Option Kind
outside_kind_in sectors read_only id bytes = option_map kinds.Outside (block_in sectors read_only id bytes)

-- Bytes of the host, which are all that follows their count in two bytes, and at most 4,096.
unfoldable pub held_of : List ℕ → Option (List ℕ)
held_of bytes =
    if nat_lt (length bytes) 2 || not (number_at bytes 0 2 + 2 == length bytes) || nat_lt HOST_BYTES_MAX (number_at bytes 0 2) then None
    else Some (drop 2 bytes)

-- A console: its size, in the first 4 bytes, and the bytes held for its driver.
abbrev pub console_size_from : List ℕ → ConsoleSize
console_size_from (a ∷ b ∷ rest) = record { columns = a; rows = b }
console_size_from numbers = first_size

unfoldable pub console_size_of : List ℕ → ConsoleSize
console_size_of bytes = console_size_from (numbers size_widths 0 bytes)

unfoldable pub console_kind_in : List ℕ → Option Kind
console_kind_in bytes = if nat_lt (length bytes) 4 then None else option_map (kinds.Console (console_size_of bytes)) (held_of (drop 4 bytes))

-- An entropy device: its pool.
abbrev pub entropy_kind_in : List ℕ → Option Kind
entropy_kind_in bytes = option_map kinds.Entropy (held_of bytes)

-- The kind of a device of this shape, with its state in the bytes after its queues.
abbrev pub kind_in : Shape → List ℕ → Option Kind
kind_in (shapes.Net mac) bytes = net_kind_in mac FRAME_MAX bytes
kind_in (shapes.LongNet mac longest) bytes = if nat_lt FRAME_MAX longest then net_kind_in mac longest bytes else None
kind_in (shapes.Block sectors read_only id) bytes = block_kind_in sectors read_only id bytes
kind_in (shapes.Outside sectors read_only id) bytes = outside_kind_in sectors read_only id bytes
kind_in shapes.Console bytes = console_kind_in bytes
kind_in shapes.Entropy bytes = entropy_kind_in bytes

-- The device of this shape, in a machine with `ram_len` bytes of RAM from the address `base` on, whose common registers and queues are encoded in the
-- first of these bytes, and whose kind, with its state, is `kind_is`.
abbrev pub device_of : ℕ → ℕ → Shape → List ℕ → Kind → DeviceState
device_of base ram_len shape bytes kind_is =
    saved_device base ram_len kind_is (common_of bytes) (queues_in (queues_of shape) (drop 26 bytes)) (positions_in (queues_of shape) (drop 26 bytes))
