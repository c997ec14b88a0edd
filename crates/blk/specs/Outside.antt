-- A disk outside of the machine: what a request asks of it, and what its answer changes (VIRTIO 1.2, 5.2.6).
use Rattle.std.specs.Prelude.{◌≡◌, ℕ, ◌+◌, ◌-◌, ◌*◌, ◌/◌, ◌%◌, ◌==◌, ◌&&◌, nat_le, nat_lt, not, All, Bool, true, false, List, [], length, take, drop, slice_get, slice_set, Option, Some, None, if◌then◌else◌}
use Rattle.guestmem.specs.Item.{Item}
use Rattle.guestmem.specs.Rises.{Touches}
use Rattle.guestmem.specs.Writes.{Write, set_all, touched}
use Rattle.chains.specs.Places.{places, place_writes, read_places}
use Rattle.chains.specs.Served.{Scene}
use Rattle.chains.specs.State.{RingState}
use Rattle.blk.specs.Advance.{AdvanceStep, advance_step}
use Rattle.blk.specs.Move.{failed}
use Rattle.blk.specs.Request.{is_open, next_sector}
use Rattle.blk.specs.Sound.{IsSoundRequest}
use Rattle.blk.specs.declared.advancing.Advanced.{Advanced}
use Rattle.blk.specs.declared.block.Block.{Block}
use Rattle.blk.specs.declared.disk.TheConstants.{SECTOR_SIZE}
use Rattle.blk.specs.declared.request.TheConstants.{HEADER_SIZE}
use Rattle.blk.specs.declared.request.Kind.{Kind}
use Rattle.blk.specs.declared.request.Kind.TheVariants as kind
use Rattle.blk.specs.declared.request.Request.{Request}
use Rattle.blk.specs.declared.shape.Limits.{Limits}
use Rattle.blk.specs.declared.outside.What.{What}
use Rattle.blk.specs.declared.outside.What.TheVariants as to
use Rattle.blk.specs.declared.outside.DiskCall.{DiskCall}

-- What a request of this kind asks of its disk. The id, and what was refused, need no disk.
abbrev pub what_of : Kind → Option What
what_of kind.In = Some to.Read
what_of kind.Out = Some to.Write
what_of kind.Zero = Some to.Clear
what_of kind.Flush = Some to.Flush
what_of kind.GetId = None
what_of kind.Refused = None

abbrev pub call_of : Option What → ℕ → ℕ → Option DiskCall
call_of None first count = None
call_of (Some what) first count = Some (record { what = what; first = first; count = count })

-- The number of units that a request has left.
abbrev pub units_left : Request → ℕ
units_left r = r.units - r.done

-- What a request asks of its disk next, if it waits for the disk: all that it has left. A flush asks for 1 unit, from sector 0 on.
abbrev pub disk_call : Request → Option DiskCall
disk_call r = if is_open r then call_of (what_of r.kind) (next_sector r) (units_left r) else None

abbrev pub disk_call_in : Option Request → Option DiskCall
disk_call_in None = None
disk_call_in (Some r) = disk_call r

-- What the k-th outstanding request, from 0, asks of its disk.
abbrev pub disk_call_at : List Request → ℕ → Option DiskCall
disk_call_at requests k = disk_call_in (slice_get requests k)

-- What a disk answers: the bytes of sectors, from the first sector of the call on; the number of units that it did, from the first one on; or
-- that it failed.
pub data Answer : Type 0 where
  Gave : List ℕ → Answer
  Did : ℕ → Answer
  Failed : Answer

abbrev pub is_read : What → Bool
is_read to.Read = true
is_read to.Write = false
is_read to.Clear = false
is_read to.Flush = false

-- The answer is one to this call, whole or in part. A read is answered by the bytes of one sector or more, another call by one unit or more, and
-- neither by more than was asked for. Every call may fail.
abbrev pub answers : DiskCall → Answer → Bool
answers call (Gave bytes) = is_read call.what && nat_lt 0 (length bytes) && (length bytes % SECTOR_SIZE == 0) && nat_le (length bytes / SECTOR_SIZE) call.count
answers call (Did count) = not (is_read call.what) && nat_lt 0 count && nat_le count call.count
answers call Failed = true

abbrev pub answers_in : Option DiskCall → Answer → Bool
answers_in None answer = false
answers_in (Some call) answer = answers call answer

-- A request awaits this answer: it is one to what the request asks.
abbrev pub awaits : Request → Answer → Bool
awaits r answer = answers_in (disk_call r) answer

abbrev pub awaits_in : Option Request → Answer → Bool
awaits_in None answer = false
awaits_in (Some r) answer = awaits r answer

abbrev pub awaits_at : List Request → ℕ → Answer → Bool
awaits_at requests k answer = awaits_in (slice_get requests k) answer

-- The request with `count` more units done.
abbrev pub more_done : Request → ℕ → Request
more_done r count = record r { done = r.done + count }

-- A request after an answer that it awaits. After a failure it ends with IOERR.
abbrev pub answered : Request → Answer → Request
answered r (Gave bytes) = more_done r (length bytes / SECTOR_SIZE)
answered r (Did count) = more_done r count
answered r Failed = failed r

-- The bytes that a disk gave go to the writable places of the units that are not done, in a RAM with this base.
abbrev pub answer_writes : ℕ → Request → Answer → List Write
answer_writes base r (Gave bytes) = place_writes base (drop (SECTOR_SIZE * r.done) (places r.writable)) bytes
answer_writes base r (Did count) = []
answer_writes base r Failed = []

-- What an answer changes, and whether it was awaited.
pub record Answering : Type 0 where
  pub taken : Bool
  pub writes : List Write
  pub requests : List Request

abbrev pub answer_to : ℕ → List Request → ℕ → Answer → Option Request → Answering
answer_to base requests k answer None = record { taken = false; writes = []; requests = requests }
answer_to base requests k answer (Some r) =
    if awaits r answer then record { taken = true; writes = answer_writes base r answer; requests = slice_set requests k (answered r answer) }
    else record { taken = false; writes = []; requests = requests }

-- The disk answers the k-th outstanding request, from 0. One that does not await this answer stays as it is, and so does RAM. No answer publishes a
-- chain: a request that has no units left ends in a step, as every other does.
abbrev pub answer_step : ℕ → List Request → ℕ → Answer → Answering
answer_step base requests k answer = answer_to base requests k answer (slice_get requests k)

-- The first `len` of the bytes that a request writes next, as they lie in a RAM with this base.
abbrev pub written_bytes : ℕ → List ℕ → Request → ℕ → List ℕ
written_bytes base ram r len = take len (drop (HEADER_SIZE + SECTOR_SIZE * r.done) (read_places base ram (places r.readable)))

-- Requests that may be outstanding in a RAM of `len` bytes with this base, on a ring of either layout, of some size.
pub record AreSoundIn (base len : ℕ) (requests : List Request) : Type 0 where
  pub is_packed : Bool
  pub size : ℕ
  pub limits : Limits
  pub sound : All (IsSoundRequest base len is_packed size limits) requests

-- The k-th outstanding request, from 0, advances without its disk: one that does not wait for it gets the id of the device, or ends. It is the step
-- of the block device, which calls no disk then; so it is the same over any sectors (`OthersAreAlike`).
abbrev pub outside_step : List ℕ → RingState → Block → ℕ → AdvanceStep
outside_step ram q b k = advance_step ram q [] b k true

-- Such a step was made: what it answers, and RAM, the ring and the device after it, and which items were touched. What touching is, as that a log
-- has taken them in, `touches` says.
pub record IsAfterOutside (touches : List Item → Type 0) (ram : List ℕ) (step : AdvanceStep) (answer : Advanced) (new_ram : List ℕ) (new_ring : RingState) (new_block : Block) : Type 0 where
  pub answer_is : answer ≡ step.answer
  pub ram_is : new_ram ≡ set_all ram step.writes
  pub ring_is : new_ring ≡ step.ring
  pub block_is : new_block ≡ step.block
  pub items_are : touches (touched step.writes)

abbrev pub HasAdvancedOutside : {L : Type 0} → (L → Item → L) → ℕ → Scene L Block → Scene L Block → Advanced → Type 0
HasAdvancedOutside after k old new answer =
    IsAfterOutside (Touches after old.log new.log old.ram new.ram) old.ram.bytes (outside_step old.ram.bytes old.ring old.state k) answer new.ram.bytes new.ring new.state
