-- Which bytes of RAM a look at a queue reads, as pieces of RAM, one after another: what stands in the earlier ones says where the later
-- ones lie. Two RAMs of one length that agree in these pieces give the same look. So it can be made over a copy of them alone, while the
-- guest runs, where each piece was copied after those before it (VIRTIO 1.2, 2.7.13 and 2.8.21: the index, or the flags, first).
use Rattle.std.specs.Prelude.{◌≡◌, ℕ, zero, suc, ◌+◌, ◌*◌, ◌/◌, ◌%◌, ◌<◌, ◌==◌, ◌&&◌, nat_lt, List, [], ◌∷◌, length, slice_index, Bool, true, false, not, nat_le, if◌then◌else◌}
use Rattle.guestmem.specs.Address.{index_of, is_within}
use Rattle.chains.specs.declared.descriptor.Descriptor.{Descriptor}
use Rattle.chains.specs.declared.descriptor.TheConstants.{DESCRIPTOR_SIZE}
use Rattle.chains.specs.State.{RingState}
use Rattle.chains.specs.declared.lacking.Piece.{Piece}
use Rattle.chains.specs.Descriptor.{descriptor_at}
use Rattle.chains.specs.SplitChain.{available_index, waiting, head}

-- Two RAMs have the same bytes in a piece.
abbrev pub AgreeAt : List ℕ → List ℕ → Piece → Type 0
AgreeAt a b p = (k : ℕ) → k < p.count → slice_index a (p.at + k) ≡ slice_index b (p.at + k)

-- They have the same bytes in each of these pieces.
abbrev pub AgreeOn : List ℕ → List ℕ → List Piece → Type 0
AgreeOn a b [] = Unit {0}
AgreeOn a b (p ∷ ps) = AgreeAt a b p × AgreeOn a b ps

-- An entry of a table of descriptors.
abbrev pub entry_piece : ℕ → ℕ → Piece
entry_piece table index = record { at = table + DESCRIPTOR_SIZE * index; count = DESCRIPTOR_SIZE }

-- What a walk reads of the list that begins at an entry of a table (VIRTIO 1.2, 2.7.5). It stops at an index past the table, and after
-- `room` descriptors. Where the list ends, it continues with what `behind` says of the last descriptor.
abbrev pub list_pieces : (Descriptor → List Piece) → List ℕ → ℕ → ℕ → ℕ → ℕ → List Piece
list_pieces behind ram table entries zero index = []
list_pieces behind ram table entries (suc room) index =
    let d = descriptor_at false ram table index in
    if nat_lt index entries then entry_piece table index ∷ (if d.has_next then list_pieces behind ram table entries room d.next else behind d) else []

-- Nothing is read after the last descriptor.
abbrev pub no_piece : Descriptor → List Piece
no_piece d = []

-- Whether a descriptor names a table that is read: it is indirect, the feature was accepted, and the table has some whole entries and lies
-- inside RAM (VIRTIO 1.2, 2.7.5.3).
abbrev pub names_table : ℕ → ℕ → Bool → Descriptor → Bool
names_table base len has_indirect d = d.is_indirect && (has_indirect && (nat_lt 0 d.len && (d.len % DESCRIPTOR_SIZE == 0 && is_within base len d.addr d.len)))

-- What is read of the list in the table that the last descriptor names, if it names one.
abbrev pub table_pieces : List ℕ → RingState → Descriptor → List Piece
table_pieces ram q d =
    if names_table q.base (length ram) q.has_indirect d then list_pieces no_piece ram (index_of q.base d.addr) (d.len / DESCRIPTOR_SIZE) q.size 0 else []

-- The driver's index (VIRTIO 1.2, 2.7.6).
abbrev pub index_piece : RingState → Piece
index_piece q = record { at = q.driver + 2; count = 2 }

-- The head of the chain at the taking position.
abbrev pub head_piece : RingState → Piece
head_piece q = record { at = q.driver + 4 + 2 * (q.taking.place % q.size); count = 2 }

-- Of the chain at the taking position of a split queue: its head, its list, and the table that this ends with.
abbrev pub chain_pieces : List ℕ → RingState → List Piece
chain_pieces ram q = head_piece q ∷ list_pieces (table_pieces ram q) ram q.descriptors q.size q.size (head ram q)

-- What a look at a split queue reads: of an empty queue, and of one with more chains than slots, the index alone.
abbrev pub split_pieces : List ℕ → RingState → List Piece
split_pieces ram q =
    index_piece q ∷ (if available_index ram q == q.taking.place then [] else if nat_lt q.size (waiting ram q) then [] else chain_pieces ram q)

-- The driver's word about interrupts: the event suppression structure of a packed queue (VIRTIO 1.2, 2.8.14), used_event or the flags of a
-- split one (2.7.7). A step that publishes a chain reads it last, once all that it writes is there.
abbrev pub event_piece : RingState → Piece
event_piece q =
    if q.is_packed then record { at = q.driver; count = 4 } else if q.has_event_index then record { at = q.driver + 4 + 2 * q.size; count = 2 } else record { at = q.driver; count = 2 }

-- Who holds these pieces of a RAM has a copy of this one, whatever the RAM is.
abbrev pub KnowsPiece : List Piece → Piece → Type 0
KnowsPiece held p = (a b : List ℕ) → AgreeOn a b held → AgreeAt a b p

-- Who holds these pieces of this RAM has a copy of each of those.
abbrev pub Knows : List Piece → List ℕ → List Piece → Type 0
Knows held ram ps = (b : List ℕ) → AgreeOn ram b held → AgreeOn ram b ps

-- Whether a descriptor with these flags AVAIL and USED is available to a device with this wrap counter (VIRTIO 1.2, 2.8.1).
abbrev pub is_available : Bool → Bool → Bool → Bool
is_available wrap avail used = if wrap then avail && not used else not avail && used

-- What a walk reads of the descriptors in consecutive slots of a packed ring, from a slot on. Where they end, it continues with what `behind`
-- says of the last one.
abbrev pub slot_pieces : (Descriptor → List Piece) → List ℕ → ℕ → ℕ → ℕ → ℕ → List Piece
slot_pieces behind ram table size zero slot = []
slot_pieces behind ram table size (suc room) slot =
    let d = descriptor_at true ram table slot in
    entry_piece table slot ∷ (if d.has_next then slot_pieces behind ram table size room ((slot + 1) % size) else behind d)

-- The table that the last descriptor names, as one piece, if it names one of no more entries than there are slots.
abbrev pub whole_table : List ℕ → RingState → Descriptor → List Piece
whole_table ram q d =
    if names_table q.base (length ram) q.has_indirect d && nat_le (d.len / DESCRIPTOR_SIZE) q.size
    then record { at = index_of q.base d.addr; count = DESCRIPTOR_SIZE * (d.len / DESCRIPTOR_SIZE) } ∷ [] else []

-- What a look at a packed queue reads: of an empty queue the first descriptor alone.
abbrev pub packed_pieces : List ℕ → RingState → List Piece
packed_pieces ram q =
    let d = descriptor_at true ram q.descriptors q.taking.place in
    entry_piece q.descriptors q.taking.place
    ∷ (if is_available q.taking.wrap d.avail_flag d.used_flag then slot_pieces (whole_table ram q) ram q.descriptors q.size q.size q.taking.place else [])

-- What a look at a queue of either layout reads.
abbrev pub look_pieces : List ℕ → RingState → List Piece
look_pieces ram q = if q.is_packed then packed_pieces ram q else split_pieces ram q

-- The bytes at addresses, one by one, in a RAM with this base.
abbrev pub place_pieces : ℕ → List ℕ → List Piece
place_pieces base [] = []
place_pieces base (place ∷ at) = record { at = index_of base place; count = 1 } ∷ place_pieces base at

-- These bytes lie in RAM from an index on.
abbrev pub HoldsAt : List ℕ → ℕ → List ℕ → Type 0
HoldsAt ram at bytes = (k : ℕ) → k < length bytes → slice_index ram (at + k) ≡ slice_index bytes k

-- A word of the driver that asks for no interrupt for what is published next.
unfoldable pub quiet_word : RingState → List ℕ
quiet_word q =
    if q.is_packed then 0 ∷ 0 ∷ 1 ∷ 0 ∷ []
    else if q.has_event_index then (let next = (q.used.place + 1) % 65536 in next % 256 ∷ next / 256 ∷ [])
    else 1 ∷ 0 ∷ []
