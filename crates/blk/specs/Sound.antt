-- The invariants of outstanding requests.
use Rattle.std.specs.Prelude.{◌≡◌, ℕ, ◌+◌, ◌*◌, ◌<◌, ◌≤◌, ◌^◌, List, [], length, All, Bool, true, false}
use Rattle.std.specs.Bool.{MatchBool}
use Rattle.chains.specs.Places.{places, AreSegmentsInside}
use Rattle.chains.specs.State.{RingState}
use Rattle.blk.specs.Request.{is_good}
use Rattle.blk.specs.declared.disk.TheConstants.{SECTOR_SIZE}
use Rattle.blk.specs.declared.request.TheConstants.{HEADER_SIZE, SEGMENT_SIZE}
use Rattle.blk.specs.declared.requests.TheConstants.{REQUESTS_MAX}
use Rattle.blk.specs.declared.shape.TheConstants.{ID_SIZE, ZEROES_MAX}
use Rattle.blk.specs.declared.request.Kind.{Kind}
use Rattle.blk.specs.declared.request.Kind.TheVariants.{Refused, In, Out, Flush, GetId, Zero}
use Rattle.blk.specs.declared.request.Verdict.{Verdict}
use Rattle.blk.specs.declared.request.Verdict.TheVariants.{Good, IoError, Unsupported}
use Rattle.blk.specs.declared.request.Request.{Request}
use Rattle.blk.specs.declared.shape.Limits.{Limits}
use Rattle.mmio.specs.declared.queue.Queue.{Queue}

-- The verdict so far fits the progress: it is good, with no more units done than there are; or an I/O error, with some left
-- undone.
abbrev pub MayEnd : Verdict → ℕ → ℕ → Type 0
MayEnd Good done units = done ≤ units
MayEnd IoError done units = done < units
MayEnd Unsupported done units = ⊥

-- What holds of a request by its kind, for these numbers of readable and writable bytes, where the driver may ask for this.
abbrev pub IsSoundWork : Kind → ℕ → ℕ → Limits → Verdict → ℕ → ℕ → ℕ → Type 0
IsSoundWork Refused readable writable limits verdict first units done = (is_good verdict ≡ false) × (first ≡ 0) × (units ≡ 0) × (done ≡ 0)
IsSoundWork In readable writable limits verdict first units done = MayEnd verdict done units × (SECTOR_SIZE * units + 1 ≡ writable) × (first + units ≤ limits.sectors)
IsSoundWork Out readable writable limits verdict first units done = MayEnd verdict done units × (SECTOR_SIZE * units + HEADER_SIZE ≡ readable) × (first + units ≤ limits.sectors) × (limits.read_only ≡ false)
IsSoundWork Flush readable writable limits verdict first units done = MayEnd verdict done units × (units ≡ 1) × (first ≡ 0)
IsSoundWork GetId readable writable limits verdict first units done = (is_good verdict ≡ true) × (done ≤ units) × (units ≡ 1) × (first ≡ 0) × (ID_SIZE + 1 ≤ writable)
IsSoundWork Zero readable writable limits verdict first units done = MayEnd verdict done units × (HEADER_SIZE + SEGMENT_SIZE ≡ readable) × (units ≤ ZEROES_MAX) × (first + units ≤ limits.sectors) × (limits.read_only ≡ false) × (limits.may_clear ≡ true)

-- The same of a request.
abbrev pub HasSoundWork : Limits → Request → Type 0
HasSoundWork limits r = IsSoundWork r.kind (length (places r.readable)) (length (places r.writable)) limits r.verdict r.first r.units r.done

-- A request that may be outstanding, in a RAM of `len` bytes with this base, on a ring of this layout with `size` slots. Its chain
-- is one that such a ring can have: its id fits 16 bits; it takes from 1 to `size` slots, in a split ring exactly one, and there
-- its id is the number of a slot; it has no more segments than there are slots, all inside RAM by their addresses as the guest
-- wrote them, and together of fewer than 2^32 bytes. It has room for the header and the verdict.
pub record IsSoundRequest (base len : ℕ) (is_packed : Bool) (size : ℕ) (limits : Limits) (r : Request) : Type 0 where
  pub some : 1 ≤ r.slots
  pub slots : r.slots ≤ size
  pub id_fits : r.id < 2 ^ 16
  pub id : MatchBool is_packed (Unit {0}) ((r.slots ≡ 1) × (r.id < size))
  pub few : length r.readable + length r.writable ≤ size
  pub readable : AreSegmentsInside base len r.readable
  pub writable : AreSegmentsInside base len r.writable
  pub total : length (places r.readable) + length (places r.writable) < 2 ^ 32
  pub header : HEADER_SIZE ≤ length (places r.readable)
  pub status : 1 ≤ length (places r.writable)
  pub work : HasSoundWork limits r

-- The requests that may be outstanding.
abbrev pub AreSound : ℕ → RingState → Limits → List Request → Type 0
AreSound len q limits requests = All (IsSoundRequest q.base len q.is_packed q.size limits) requests

-- Requests that a block device with this queue can have outstanding, in a RAM of `bytes` bytes with this base: at most 8, each sound, and
-- none unless its queue is ready.
pub record AreRequestsOf (base bytes : ℕ) (is_packed : Bool) (q : Queue) (limits : Limits) (requests : List Request) : Type 0 where
  pub few : length requests ≤ REQUESTS_MAX
  pub sound : All (IsSoundRequest base bytes is_packed q.size limits) requests
  pub where_ready : MatchBool q.is_ready (Unit {0}) (requests ≡ [])
