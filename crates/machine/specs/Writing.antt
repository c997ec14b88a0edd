-- What is known of a step before it is made of what it writes into RAM: by that and its reply, a host that makes it beside the guest stores
-- the writes piece after piece.
use Rattle.std.specs.Prelude.{◌≡◌, ℕ, ◌+◌, ◌*◌, ◌-◌, ◌<◌, ◌≤◌, ◌^◌, nat_lt, List, [], ◌∷◌, length, map, take, drop, Option, Some, None, slice_get, if◌then◌else◌}
use Rattle.guestmem.specs.Memory.{Memory}
use Rattle.chains.specs.Footprint.{entry_piece, index_piece}
use Rattle.chains.specs.Places.{AreSegmentsInside, addresses, last_place, places}
use Rattle.chains.specs.Publish.{after_take, event_note}
use Rattle.chains.specs.State.{HasAreas, MayRing, RingState}
use Rattle.chains.specs.declared.chain.Chain.{Chain}
use Rattle.chains.specs.declared.lacking.Piece.{Piece}
use Rattle.chains.specs.declared.next.Next.{Next}
use Rattle.chains.specs.declared.next.Next.TheVariants as next
use Rattle.chains.specs.declared.segs.Seg.{Seg}
use Rattle.blk.specs.declared.disk.TheConstants.{SECTOR_SIZE}
use Rattle.blk.specs.declared.shape.TheConstants.{ID_SIZE}
use Rattle.blk.specs.declared.request.Kind.{Kind}
use Rattle.blk.specs.declared.request.Kind.TheVariants as work
use Rattle.blk.specs.declared.request.Request.{Request}
use Rattle.machine.specs.Applied.{IsApplied}
use Rattle.machine.specs.Asked.{MayAnswer}
use Rattle.machine.specs.DeviceStep.{advanced_at, looked_at, requests_of}
use Rattle.machine.specs.Footprint.{has_published}
use Rattle.machine.specs.Parked.{ParkedSeen, back_with}
use Rattle.machine.specs.Seen.{state_of}
use Rattle.machine.specs.Sound.{IsSound}
use Rattle.machine.specs.State.{DeviceState, MachineState}
use Rattle.machine.specs.Stored.{chain_writes, indexes_in, indexes_of, note_pieces, published_pieces, request_writes, seen_writes}
use Rattle.machine.specs.declared.event.Event.TheVariants.{Step}
use Rattle.machine.specs.declared.kind.Kind as kinds
use Rattle.machine.specs.declared.reply.Reply.{Reply}
use Rattle.machine.specs.declared.reply.Reply.TheVariants.{Completed, Idle, Moved}
use Rattle.machine.specs.declared.stores.Target.{Target}
use Rattle.machine.specs.declared.stores.Target.TheVariants as target

-- What a step writes by: nothing; a queue that is empty, with the piece by which it is; a chain that a queue has at its taking position, before
-- that is taken; or a request that is advanced, without what the device reads of it.
pub data Writing : Type 0 where
  nothing : Writing
  an_empty : RingState → Piece → Writing
  a_chain : RingState → Chain → Writing
  a_request : RingState → Request → Writing

-- As the code holds it.
abbrev pub writing_in : RingState → Target → Writing
writing_in q target.Nothing = nothing
writing_in q (target.Empty first) = an_empty q first
writing_in q (target.Chain c) = a_chain q c
writing_in q (target.Request r) = a_request q r

-- A request without its readable segments. What it writes does not depend on them.
abbrev pub unread : Request → Request
unread r = record r { readable = [] }

abbrev pub unread_in : Option Request → Option Request
unread_in None = None
unread_in (Some r) = Some (unread r)

-- The pieces that the step writes, in order, where it gave this reply.
abbrev pub writes_of : Writing → Reply → List Piece
writes_of nothing reply = []
writes_of (an_empty q first) reply = seen_writes q next.Empty reply
writes_of (a_chain q c) reply = chain_writes q c reply
writes_of (a_request q r) reply = request_writes q (Some r) reply

-- The piece that a look at a queue reads first. Of an empty queue it reads no other.
abbrev pub first_piece : RingState → Piece
first_piece q = if q.is_packed then entry_piece q.descriptors q.taking.place else index_piece q

-- By what a queue answers.
abbrev pub writing_on : RingState → Next → Writing
writing_on q next.Empty = an_empty q (first_piece q)
writing_on q next.Malformed = nothing
writing_on q (next.Chain c) = a_chain q c

-- Of the request that is advanced, if one is.
abbrev pub request_on : RingState → Option Request → Writing
request_on q None = nothing
request_on q (Some r) = a_request q (unread r)

abbrev pub advancing_at : kinds.Kind → ℕ → Option RingState → Writing
advancing_at kind k None = nothing
advancing_at kind k (Some q) = request_on q (slice_get (requests_of kind) k)

abbrev pub writing_by : DeviceState → ℕ → Option RingState → Next → Writing
writing_by d pick None answer = advancing_at d.kind (pick - 1) (advanced_at d pick)
writing_by d pick (Some q) answer = writing_on q answer

-- What a step of a device writes by: by what its queue answers, also where the device cannot use that chain.
pub record IsStoring (d : DeviceState) (ram : List ℕ) (pick : ℕ) (w : Writing) : Type 0 where
  pub answer : Next
  pub answers : MayAnswer (looked_at d pick) ram answer
  pub is : w ≡ writing_by d pick (looked_at d pick) answer

-- Of a machine.
abbrev pub StoresBy : Option DeviceState → List ℕ → ℕ → Writing → Type 0
StoresBy None ram pick w = w ≡ nothing
StoresBy (Some d) ram pick w = IsStoring d ram pick w

abbrev pub StepStores : MachineState → ℕ → ℕ → Writing → Type 0
StepStores m dev pick w = StoresBy (slice_get m.devices dev) m.ram pick w

-- What a step writes is what was known of it before, by its reply: byte for byte, and in order.
abbrev pub StoringIsWrites : Type 0
StoringIsWrites = (p next : ParkedSeen) (window after : Memory) (dev pick : ℕ) (reply : Reply) (h : IsApplied (back_with p window) (Step dev pick) reply (back_with next after)) (w : Writing)
    → StepStores (state_of (back_with p window)) dev pick w → indexes_in h.effect.writes ≡ indexes_of (writes_of w reply)

-- The first of the writes: the places in the chain, one by one. A note and what is published come after them.
abbrev pub unit_places : Kind → Request → List ℕ
unit_places work.In r = take SECTOR_SIZE (drop (SECTOR_SIZE * r.done) (places r.writable))
unit_places work.GetId r = take ID_SIZE (places r.writable)
unit_places _ r = []

abbrev pub chain_places : Chain → Reply → List ℕ
chain_places c (Completed len) = take len (places c.writable)
chain_places c _ = []

abbrev pub request_places : Request → Reply → List ℕ
request_places r Moved = unit_places r.kind r
request_places r (Completed len) = last_place r.writable
request_places r _ = []

abbrev pub places_of : Writing → Reply → List ℕ
places_of nothing reply = []
places_of (an_empty q first) reply = []
places_of (a_chain q c) reply = chain_places c reply
places_of (a_request q r) reply = request_places r reply

-- The last of them: what a host has to store at once each, and behind all else.
abbrev pub note_of : RingState → Reply → List Piece
note_of q Idle = note_pieces q
note_of q _ = []

abbrev pub end_of : RingState → Reply → List Piece
end_of q (Completed len) = published_pieces q
end_of q _ = []

abbrev pub last_of : Writing → Reply → List Piece
last_of nothing reply = []
last_of (an_empty q first) reply = note_of q reply
last_of (a_chain q c) reply = if has_published reply then published_pieces (after_take q c.slots) else []
last_of (a_request q r) reply = end_of q reply

-- The base of the RAM in which it lies.
abbrev pub writing_base : Writing → ℕ
writing_base nothing = 0
writing_base (an_empty q first) = q.base
writing_base (a_chain q c) = q.base
writing_base (a_request q r) = q.base

-- A piece is these indexes from the n-th one on, as many as it has bytes, and has some.
pub record IsFrom (indexes : List ℕ) (n : ℕ) (p : Piece) : Type 0 where
  pub some : 0 < p.count
  pub is : addresses p.at p.count ≡ take p.count (drop n indexes)

-- What is to be stored once `n` bytes of these are: none exactly where no byte is left.
abbrev pub IsNext : List ℕ → ℕ → Option Piece → Type 0
IsNext indexes n None = length indexes ≤ n
IsNext indexes n (Some p) = IsFrom indexes n p

-- The rest of the piece of these in which the n-th byte lies.
abbrev pub rest_from : List Piece → ℕ → Option Piece
rest_from [] n = None
rest_from (p ∷ ps) n = if nat_lt n p.count then Some (record { at = p.at + n; count = p.count - n }) else rest_from ps (n - p.count)

-- The last pieces are handed out one by one, none together with what is before it.
pub record IsApartAtEnd (first : ℕ) (last : List Piece) (n : ℕ) (piece : Option Piece) : Type 0 where
  pub before : (p : Piece) → piece ≡ Some p → n < first → n + p.count ≤ first
  pub behind : first ≤ n → piece ≡ rest_from last (n - first)

-- Where the step may write, whatever its reply: into these segments, and into the last pieces.
abbrev pub segments_of : Writing → List Seg
segments_of nothing = []
segments_of (an_empty q first) = []
segments_of (a_chain q c) = c.writable
segments_of (a_request q r) = r.writable

abbrev pub last_pieces : Writing → List Piece
last_pieces nothing = []
last_pieces (an_empty q first) = note_pieces q
last_pieces (a_chain q c) = published_pieces (after_take q c.slots)
last_pieces (a_request q r) = published_pieces q

-- The bytes of the note that is written where a queue is empty; none without event indexes.
abbrev pub note_bytes : RingState → List ℕ
note_bytes q = map (λ w. w.byte) (event_note q)

abbrev pub note_in : Writing → List ℕ
note_in (an_empty q first) = note_bytes q
note_in _ = []

-- The piece that is to be read again once the note is stored, where there is one.
abbrev pub second_look : Writing → Option Piece
second_look (an_empty q first) = if q.has_event_index then Some first else None
second_look _ = None

-- It lies inside a RAM of `len` bytes.
abbrev pub LiesInRam : ℕ → Writing → Type 0
LiesInRam len nothing = Unit {0}
LiesInRam len (an_empty q first) = HasAreas len q × MayRing q
LiesInRam len (a_chain q c) = HasAreas len q × AreSegmentsInside q.base len c.writable
LiesInRam len (a_request q r) = HasAreas len q × AreSegmentsInside q.base len r.writable

-- So it does in some RAM whose indexes are far from the greatest number, and this is its base.
pub record IsHeldIn (base : ℕ) (w : Writing) : Type 0 where
  pub len : ℕ
  pub few : len < 2 ^ 63
  pub lies : LiesInRam len w
  pub base_is : base ≡ writing_base w

-- Two pieces, of which a list of fewer is the first ones. The others have no byte.
abbrev pub no_bytes : Piece
no_bytes = record { at = 0; count = 0 }

abbrev pub in_two : List Piece → List Piece
in_two [] = no_bytes ∷ no_bytes ∷ []
in_two (p ∷ []) = p ∷ no_bytes ∷ []
in_two (p ∷ q ∷ ps) = p ∷ q ∷ ps

-- No byte of these pieces is past the greatest number.
abbrev pub AreNear : List Piece → Type 0
AreNear [] = Unit {0}
AreNear (p ∷ ps) = (p.at + p.count < 2 ^ 64) × AreNear ps

-- A step that finds its queue empty writes its note, and nothing else.
abbrev pub EmptyWritesNote : Type 0
EmptyWritesNote = (p next : ParkedSeen) (window after : Memory) (dev pick : ℕ) (h : IsApplied (back_with p window) (Step dev pick) Idle (back_with next after)) (q : RingState) (first : Piece)
    → StepStores (state_of (back_with p window)) dev pick (an_empty q first) → h.effect.writes ≡ event_note q

-- Each piece of what a step of a sound machine writes lies inside RAM.
abbrev pub PiecesAreInside : Type 0
PiecesAreInside = (p next : ParkedSeen) (window after : Memory) (dev pick : ℕ) (reply : Reply) (h : IsApplied (back_with p window) (Step dev pick) reply (back_with next after)) (w : Writing)
    → IsSound (state_of (back_with p window)) → StepStores (state_of (back_with p window)) dev pick w → (n : ℕ) (piece : Piece) → IsFrom (indexes_of (writes_of w reply)) n piece → piece.at + piece.count ≤ length window.bytes
