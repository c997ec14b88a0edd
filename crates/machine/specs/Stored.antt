-- What a step writes, as pieces of RAM: a host whose guest runs stores them, from the window in which the step was made.
use Rattle.std.specs.Prelude.{◌≡◌, ℕ, ◌+◌, ◌*◌, ◌-◌, ◌%◌, List, [], ◌∷◌, ◌++◌, length, map, take, drop, Option, Some, None, slice_get, slice_index, slice_set, if◌then◌else◌}
use Rattle.guestmem.specs.Writes.{Write}
use Rattle.chains.specs.Footprint.{place_pieces}
use Rattle.chains.specs.Places.{addresses, last_place, places}
use Rattle.chains.specs.Publish.{after_take}
use Rattle.chains.specs.State.{RingState}
use Rattle.chains.specs.declared.chain.Chain.{Chain}
use Rattle.chains.specs.declared.descriptor.TheConstants.{DESCRIPTOR_SIZE}
use Rattle.chains.specs.declared.lacking.Piece.{Piece}
use Rattle.chains.specs.declared.next.Next.{Next}
use Rattle.chains.specs.declared.next.Next.TheVariants as next
use Rattle.blk.specs.declared.disk.TheConstants.{SECTOR_SIZE}
use Rattle.blk.specs.declared.shape.TheConstants.{ID_SIZE}
use Rattle.blk.specs.declared.request.Kind.{Kind}
use Rattle.blk.specs.declared.request.Kind.TheVariants as work
use Rattle.blk.specs.declared.request.Request.{Request}
use Rattle.machine.specs.DeviceStep.{advanced_at, looked_at, requests_of}
use Rattle.machine.specs.State.{DeviceState}
use Rattle.machine.specs.declared.kind.Kind as kinds
use Rattle.machine.specs.declared.kind.Kind.TheVariants.{Block, Outside}
use Rattle.machine.specs.declared.reply.Reply.{Reply}
use Rattle.machine.specs.declared.reply.Reply.TheVariants.{Completed, Idle, Moved, Sent}

-- The indexes of pieces, in order.
abbrev pub indexes_of : List Piece → List ℕ
indexes_of [] = []
indexes_of (p ∷ ps) = addresses p.at p.count ++ indexes_of ps

-- RAM with the bytes at these indexes as the window has them.
abbrev pub copied : List ℕ → List ℕ → List ℕ → List ℕ
copied window ram [] = ram
copied window ram (i ∷ is) = copied window (slice_set ram i (slice_index window i)) is

abbrev pub stored : List ℕ → List ℕ → List Piece → List ℕ
stored window ram pieces = copied window ram (indexes_of pieces)

abbrev pub indexes_in : List Write → List ℕ
indexes_in ws = map (λ w. w.index) ws

-- Publishing a chain: the element of the used ring, and then its index; in a packed ring length, id and flags, at once.
abbrev pub published_pieces : RingState → List Piece
published_pieces q =
    if q.is_packed then record { at = q.descriptors + DESCRIPTOR_SIZE * q.used.place + 8; count = 8 } ∷ []
    else record { at = q.device + 4 + 8 * (q.used.place % q.size); count = 8 } ∷ record { at = q.device + 2; count = 2 } ∷ []

-- The note of an empty queue.
abbrev pub note_pieces : RingState → List Piece
note_pieces q =
    if q.has_event_index then (if q.is_packed then record { at = q.device; count = 4 } ∷ [] else record { at = q.device + 4 + 8 * q.size; count = 2 } ∷ []) else []

-- Of a chain that was seen, by the reply.
abbrev pub chain_writes : RingState → Chain → Reply → List Piece
chain_writes q c (Completed len) = place_pieces q.base (take len (places c.writable)) ++ published_pieces (after_take q c.slots)
chain_writes q c (Sent bytes) = published_pieces (after_take q c.slots)
chain_writes q c _ = []

abbrev pub seen_writes : RingState → Next → Reply → List Piece
seen_writes q next.Empty Idle = note_pieces q
seen_writes q next.Empty _ = []
seen_writes q next.Malformed reply = []
seen_writes q (next.Chain c) reply = chain_writes q c reply

-- Of one unit of a request, and of its end.
abbrev pub unit_writes : Kind → ℕ → Request → List Piece
unit_writes work.In base r = place_pieces base (take SECTOR_SIZE (drop (SECTOR_SIZE * r.done) (places r.writable)))
unit_writes work.GetId base r = place_pieces base (take ID_SIZE (places r.writable))
unit_writes _ base r = []

abbrev pub request_writes : RingState → Option Request → Reply → List Piece
request_writes q None reply = []
request_writes q (Some r) Moved = unit_writes r.kind q.base r
request_writes q (Some r) (Completed len) = place_pieces q.base (last_place r.writable) ++ published_pieces q
request_writes q (Some r) _ = []

abbrev pub advance_writes : kinds.Kind → ℕ → Option RingState → Reply → List Piece
advance_writes kind k None reply = []
advance_writes kind k (Some q) reply = request_writes q (slice_get (requests_of kind) k) reply

abbrev pub writes_at : DeviceState → ℕ → Option RingState → Next → Reply → List Piece
writes_at d pick None seen reply = advance_writes d.kind (pick - 1) (advanced_at d pick) reply
writes_at d pick (Some q) seen reply = seen_writes q seen reply

-- What a step of a device writes, by what it sees and its reply.
abbrev pub device_writes : DeviceState → ℕ → Next → Reply → List Piece
device_writes d pick seen reply = writes_at d pick (looked_at d pick) seen reply

-- The id of a block device has its size.
abbrev pub HasId : kinds.Kind → Type 0
HasId (Block block) = length block.id ≡ ID_SIZE
HasId (Outside block) = length block.id ≡ ID_SIZE
HasId _ = Unit {0}
