-- What a device sees in a queue, and where memory may be refused for a look, is read in the pieces of the look.
use Rattle.std.specs.Prelude.{◌≡◌, ℕ, zero, suc, ◌+◌, ◌*◌, ◌/◌, ◌%◌, ◌<◌, ◌≤◌, ◌&&◌, nat_le, nat_lt, List, [], ◌∷◌, ◌++◌, length, take, drop, Bool, true, false, refl, if◌then◌else◌}
use Rattle.std.proofs.Common.{ap, sym, subst, ◌∙◌, arith, get_or, length-append, inl, inr}
use Rattle.std.proofs.lemmas.Bool.{lt-ltb, and_from, le-leb}
use Rattle.std.proofs.lemmas.List.{take-map, drop-map}
use Rattle.std.specs.Bool.{MatchBool}
use Rattle.guestmem.specs.Address.{index_of}
use Rattle.chains.specs.declared.descriptor.Descriptor.{Descriptor}
use Rattle.chains.specs.declared.lacking.Piece.{Piece}
use Rattle.chains.specs.declared.next.Next.{Next}
use Rattle.chains.specs.declared.next.Next.TheVariants as next
use Rattle.chains.specs.declared.looking.Wanted.{Wanted}
use Rattle.chains.specs.declared.looking.Wanted.TheVariants.{Room, Message, Request}
use Rattle.chains.specs.declared.transmitting.MessageForm.{MessageForm}
use Rattle.chains.specs.State.{RingState}
use Rattle.chains.specs.Descriptor.{descriptor_at}
use Rattle.chains.specs.Places.{read_places}
use Rattle.chains.specs.SplitChain.{AreLinked, IsSplitEmpty, head}
use Rattle.chains.specs.PackedChain.{IsPackedEmpty}
use Rattle.chains.specs.LongQueue.{AreInRow, AreInSlots, IsLongPacked, IsLongQueue, IsLongSplit, IsPackedRow, IsRowIntoTable, IsRowOfTable, IsSplitRow}
use Rattle.chains.specs.Look.{Sees}
use Rattle.chains.specs.Ring.{Answers, IsEmptyQueue}
use Rattle.chains.specs.Served.{MayRefuse}
use Rattle.chains.specs.Transmit.{MayWantMemory}
use Rattle.chains.specs.Footprint.{AgreeOn, chain_pieces, entry_piece, is_available, list_pieces, look_pieces, names_table, no_piece, packed_pieces, place_pieces, slot_pieces, split_pieces, table_pieces, whole_table}
use Rattle.chains.proofs.ChainLaws.{length_entries}
use Rattle.chains.proofs.SplitFootprint.{behind_local, chain_read, descriptor_local, head_local, if_true, if_false, index_local, linked_local, names_true, pieces_same, split_answers_local, turned}
use Rattle.chains.proofs.PackedFootprint.{available_true, entries_local, packed_answers_local, packed_descriptor_local, packed_pieces_same}

-- A list of pieces that goes on behind another.
pub agree_first : (a b : List ℕ) (ps qs : List Piece) → AgreeOn a b (ps ++ qs) → AgreeOn a b ps
agree_first a b [] qs h = tt
agree_first a b (p ∷ ps) qs h = (h.0, agree_first a b ps qs h.1)

pub agree_rest : (a b : List ℕ) (ps qs : List Piece) → AgreeOn a b (ps ++ qs) → AgreeOn a b qs
agree_rest a b [] qs h = h
agree_rest a b (p ∷ ps) qs h = agree_rest a b ps qs h.1

-- The bytes at places are read there.
pub places_local : (base : ℕ) (a b at : List ℕ) → AgreeOn a b (place_pieces base at) → read_places base a at ≡ read_places base b at
places_local base a b [] h = refl
places_local base a b (place ∷ at) h =
    let zeroth : index_of base place + 0 ≡ index_of base place = omega arith in
    let here : get_or a (index_of base place) 0 ≡ get_or b (index_of base place) 0 = rw zeroth at (h.0 0 (omega arith)) in
    rw (here, places_local base a b at h.1) refl

-- So is a part of them.
pub part_local : (base : ℕ) (a b at : List ℕ) (skip count : ℕ) → AgreeOn a b (place_pieces base (take count (drop skip at)))
    → take count (drop skip (read_places base a at)) ≡ take count (drop skip (read_places base b at))
part_local base a b at skip count h =
    let read = λ (ram : List ℕ) (place : ℕ). get_or ram (index_of base place) 0 in
    let first = ap (take count) (drop-map (read a) skip at) ∙ take-map (read a) count (drop skip at) in
    let second = ap (take count) (drop-map (read b) skip at) ∙ take-map (read b) count (drop skip at) in
    first ∙ places_local base a b (take count (drop skip at)) h ∙ sym second

pub rest_local : (base : ℕ) (a b at : List ℕ) (skip : ℕ) → AgreeOn a b (place_pieces base (drop skip at)) → drop skip (read_places base a at) ≡ drop skip (read_places base b at)
rest_local base a b at skip h =
    let read = λ (ram : List ℕ) (place : ℕ). get_or ram (index_of base place) 0 in
    drop-map (read a) skip at ∙ places_local base a b (drop skip at) h ∙ sym (drop-map (read b) skip at)

pub front_local : (base : ℕ) (a b at : List ℕ) (count : ℕ) → AgreeOn a b (place_pieces base (take count at)) → take count (read_places base a at) ≡ take count (read_places base b at)
front_local base a b at count h =
    let read = λ (ram : List ℕ) (place : ℕ). get_or ram (index_of base place) 0 in
    take-map (read a) count at ∙ places_local base a b (take count at) h ∙ sym (take-map (read b) count at)

-- A row of descriptors, where the walk has room for it, is read in its pieces.
row_local : (behind : Descriptor → List Piece) (a b : List ℕ) (table entries room index : ℕ) (ds : List Descriptor) → length ds ≤ room
    → AgreeOn a b (list_pieces behind a table entries room index) → AreInRow a table entries index ds → AreInRow b table entries index ds
row_local behind a b table entries zero index [] few h l = absurd l
row_local behind a b table entries zero index (d ∷ ds) few h l = absurd (omega (arith, few))
row_local behind a b table entries (suc room) index [] few h l = absurd l
row_local behind a b table entries (suc room) index (d ∷ []) few h l =
    let da = descriptor_at false a table index in
    let rest = if da.has_next then list_pieces behind a table entries room da.next else behind da in
    let here = if_true a b (nat_lt index entries) (entry_piece table index ∷ rest) [] (lt-ltb index entries l.0) h in
    (l.0, l.1 ∙ descriptor_local a b table index here.0)
row_local behind a b table entries (suc room) index (d ∷ e ∷ ds) few h l =
    let da = descriptor_at false a table index in
    let rest = if da.has_next then list_pieces behind a table entries room da.next else behind da in
    let here = if_true a b (nat_lt index entries) (entry_piece table index ∷ rest) [] (lt-ltb index entries l.0) h in
    let goes_on : da.has_next ≡ true = ap (λ (x : Descriptor). x.has_next) (sym l.1) ∙ l.2 in
    let behind_it = if_true a b da.has_next (list_pieces behind a table entries room da.next) (behind da) goes_on here.1 in
    let back : da.next ≡ d.next = ap (λ (x : Descriptor). x.next) (sym l.1) in (
      l.0,
      l.1 ∙ descriptor_local a b table index here.0,
      l.2,
      row_local behind a b table entries room d.next (e ∷ ds) (omega (arith, few)) (rw back at behind_it) l.3,
    )

row_some : (ram : List ℕ) (table entries index : ℕ) (ds : List Descriptor) → AreInRow ram table entries index ds → 1 ≤ length ds
row_some ram table entries index [] l = absurd l
row_some ram table entries index (d ∷ ds) l = omega arith

into_table_local : (a b : List ℕ) (q : RingState) (row : List Descriptor) → length a ≡ length b → length row ≤ q.size → AgreeOn a b (chain_pieces a q) → IsRowIntoTable a q row → IsRowIntoTable b q row
into_table_local a b q row same few h r =
    let first : head a q ≡ head b q = head_local a b q h.0 in
    let sum : length row ≡ length (r.front ++ r.inner) = ap (λ (ds : List Descriptor). length ds) r.parts in
    let some = row_some a (index_of q.base r.last.addr) (r.last.len / 16) 0 r.inner r.in_row in
    let short : length r.front < q.size = omega (arith, few, sum, some, length-append r.front r.inner) in
    let room : length (r.front ++ r.last ∷ []) ≤ q.size = omega (arith, short, length-append r.front (r.last ∷ [])) in
    let inside : length r.inner ≤ q.size = omega (arith, few, sum, length-append r.front r.inner) in
    let behind : AgreeOn a b (table_pieces a q r.last) = behind_local (table_pieces a q) a b q.descriptors q.size q.size (head a q) r.front r.last short h.1 r.linked in
    let read = if_true a b (names_table q.base (length a) q.has_indirect r.last) (list_pieces no_piece a (index_of q.base r.last.addr) (r.last.len / 16) q.size 0) [] (names_true q.base a q.has_indirect r.last r.named r.feature r.table) behind in
    let linked : AreLinked b q.descriptors q.size (head a q) (r.front ++ r.last ∷ []) = linked_local (table_pieces a q) a b q.descriptors q.size q.size (head a q) (r.front ++ r.last ∷ []) room h.1 r.linked in
    record {
      front = r.front;
      last = r.last;
      inner = r.inner;
      linked = rw first at linked;
      plain = r.plain;
      feature = r.feature;
      named = r.named;
      table = record { some = r.table.some; whole = r.table.whole; inside = rw same at r.table.inside };
      in_row = row_local no_piece a b (index_of q.base r.last.addr) (r.last.len / 16) q.size 0 r.inner inside read r.in_row;
      parts = r.parts;
    }

split_row_local : (a b : List ℕ) (q : RingState) (row : List Descriptor) → length a ≡ length b → length row ≤ q.size → AgreeOn a b (chain_pieces a q) → IsSplitRow a q row → IsSplitRow b q row
split_row_local a b q row same few h (inl r) =
    let first : head a q ≡ head b q = head_local a b q h.0 in
    inl (rw first at (row_local (table_pieces a q) a b q.descriptors q.size q.size (head a q) row few h.1 r))
split_row_local a b q row same few h (inr r) = inr (into_table_local a b q row same few h r)

-- A row of slots.
slots_local : (behind : Descriptor → List Piece) (a b : List ℕ) (table size room slot : ℕ) (ds : List Descriptor) → length ds ≤ room
    → AgreeOn a b (slot_pieces behind a table size room slot) → AreInSlots a table size slot ds → AreInSlots b table size slot ds
slots_local behind a b table size zero slot [] few h l = absurd l
slots_local behind a b table size zero slot (d ∷ ds) few h l = absurd (omega (arith, few))
slots_local behind a b table size (suc room) slot [] few h l = absurd l
slots_local behind a b table size (suc room) slot (d ∷ []) few h l = l ∙ packed_descriptor_local a b table slot h.0
slots_local behind a b table size (suc room) slot (d ∷ e ∷ ds) few h l =
    let da = descriptor_at true a table slot in
    let goes_on : da.has_next ≡ true = ap (λ (x : Descriptor). x.has_next) (sym l.0) ∙ l.1 in
    let read = if_true a b da.has_next (slot_pieces behind a table size room ((slot + 1) % size)) (behind da) goes_on h.1 in
    (l.0 ∙ packed_descriptor_local a b table slot h.0, l.1, slots_local behind a b table size room ((slot + 1) % size) (e ∷ ds) (omega (arith, few)) read l.2)

first_table : (behind : Descriptor → List Piece) (a b : List ℕ) (table size room slot : ℕ) → 1 ≤ room → (descriptor_at true a table slot).has_next ≡ false
    → AgreeOn a b (slot_pieces behind a table size room slot) → AgreeOn a b (behind (descriptor_at true a table slot))
first_table behind a b table size zero slot some ends h = absurd (omega (arith, some))
first_table behind a b table size (suc room) slot some ends h =
    let da = descriptor_at true a table slot in
    if_false a b da.has_next (slot_pieces behind a table size room ((slot + 1) % size)) (behind da) ends h.1

of_table_local : (a b : List ℕ) (q : RingState) (d : Descriptor) (row : List Descriptor) → length a ≡ length b → length row ≤ q.size → AgreeOn a b (whole_table a q d) → IsRowOfTable a q d row → IsRowOfTable b q d row
of_table_local a b q d row same few h r =
    let count : length row ≡ d.len / 16 = ap (λ (ds : List Descriptor). length ds) r.entries ∙ length_entries a (index_of q.base d.addr) 0 (d.len / 16) in
    let short : d.len / 16 ≤ q.size = omega (arith, few, count) in
    let test = and_from (names_table q.base (length a) q.has_indirect d) (nat_le (d.len / 16) q.size) (names_true q.base a q.has_indirect d r.named r.feature r.table) (le-leb (d.len / 16) q.size short) in
    let piece : Piece = record { at = index_of q.base d.addr; count = 16 * (d.len / 16) } in
    let read = if_true a b (names_table q.base (length a) q.has_indirect d && nat_le (d.len / 16) q.size) (piece ∷ []) [] test h in
    let shifted : (k : ℕ) → k < 16 * (d.len / 16) → get_or a (index_of q.base d.addr + 16 * 0 + k) 0 ≡ get_or b (index_of q.base d.addr + 16 * 0 + k) 0 = λ k below.
    let at : index_of q.base d.addr + k ≡ index_of q.base d.addr + 16 * 0 + k = omega arith in
    rw at at (read.0 k below) in
    record {
      feature = r.feature;
      named = r.named;
      alone = r.alone;
      table = record { some = r.table.some; whole = r.table.whole; inside = rw same at r.table.inside };
      entries = r.entries ∙ entries_local a b (index_of q.base d.addr) 0 (d.len / 16) shifted;
    }

packed_row_local : (a b : List ℕ) (q : RingState) (row : List Descriptor) → length a ≡ length b → 1 ≤ length row → length row ≤ q.size → AgreeOn a b (packed_pieces a q) → ¬ (IsPackedEmpty a q) → IsPackedRow a q row → IsPackedRow b q row
packed_row_local a b q row same some few h filled (inl r) =
    let d = descriptor_at true a q.descriptors q.taking.place in
    let slots = slot_pieces (whole_table a q) a q.descriptors q.size q.size q.taking.place in
    let read = if_true a b (is_available q.taking.wrap d.avail_flag d.used_flag) slots [] (available_true q.taking.wrap d.avail_flag d.used_flag filled) h.1 in
    inl (slots_local (whole_table a q) a b q.descriptors q.size q.size q.taking.place row few read r)
packed_row_local a b q row same some few h filled (inr r) =
    let d = descriptor_at true a q.descriptors q.taking.place in
    let slots = slot_pieces (whole_table a q) a q.descriptors q.size q.size q.taking.place in
    let read = if_true a b (is_available q.taking.wrap d.avail_flag d.used_flag) slots [] (available_true q.taking.wrap d.avail_flag d.used_flag filled) h.1 in
    let table = first_table (whole_table a q) a b q.descriptors q.size q.size q.taking.place (omega (arith, some, few)) r.alone read in
    let first = packed_descriptor_local a b q.descriptors q.taking.place h.0 in
    inr (subst (λ (e : Descriptor). IsRowOfTable b q e row) first (of_table_local a b q d row same few table r))

long_split_local : (a b : List ℕ) (q : RingState) → length a ≡ length b → AgreeOn a b (split_pieces a q) → ¬ (IsSplitEmpty a q) → IsLongSplit a q → IsLongSplit b q
long_split_local a b q same h filled l =
    let read = chain_read a b q h filled l.available in
    let index = index_local a b q h.0 in
    record {
      available = rw index at l.available;
      has = record { row = l.has.row; is_row = split_row_local a b q l.has.row same l.has.few read l.has.is_row; long = l.has.long; few = l.has.few };
    }

long_packed_local : (a b : List ℕ) (q : RingState) → length a ≡ length b → AgreeOn a b (packed_pieces a q) → ¬ (IsPackedEmpty a q) → IsLongPacked a q → IsLongPacked b q
long_packed_local a b q same h filled l =
    record { row = l.row; is_row = packed_row_local a b q l.row same (omega (arith, l.long)) l.few h filled l.is_row; long = l.long; few = l.few }

-- By the layout.
answers_by : (packed : Bool) (a b : List ℕ) (q : RingState) (seen : Next) → q.is_packed ≡ packed → length a ≡ length b → AgreeOn a b (if packed then packed_pieces a q else split_pieces a q) → Answers a q seen → Answers b q seen
answers_by true a b q seen is same h answers = packed_answers_local a b q seen is same h answers
answers_by false a b q seen is same h answers = split_answers_local a b q seen is same h answers

pub answers_local : (a b : List ℕ) (q : RingState) (seen : Next) → length a ≡ length b → AgreeOn a b (look_pieces a q) → Answers a q seen → Answers b q seen
answers_local a b q seen same h answers = answers_by q.is_packed a b q seen refl same h answers

same_by : (packed : Bool) (a b : List ℕ) (q : RingState) → length a ≡ length b → AgreeOn a b (if packed then packed_pieces a q else split_pieces a q)
    → (if packed then packed_pieces a q else split_pieces a q) ≡ (if packed then packed_pieces b q else split_pieces b q)
same_by true a b q same h = packed_pieces_same a b q same h
same_by false a b q same h = pieces_same a b q same h

pub look_same : (a b : List ℕ) (q : RingState) → length a ≡ length b → AgreeOn a b (look_pieces a q) → look_pieces a q ≡ look_pieces b q
look_same a b q same h = same_by q.is_packed a b q same h

pub look_back : (a b : List ℕ) (q : RingState) → length a ≡ length b → AgreeOn a b (look_pieces a q) → AgreeOn b a (look_pieces b q)
look_back a b q same h = subst (λ (ps : List Piece). AgreeOn b a ps) (look_same a b q same h) (turned a b (look_pieces a q) h)

waits_local : (a b : List ℕ) (q : RingState) → length a ≡ length b → AgreeOn a b (look_pieces a q) → ¬ (IsEmptyQueue a q) → ¬ (IsEmptyQueue b q)
waits_local a b q same h filled = λ empty. filled (answers_local b a q next.Empty (sym same) (look_back a b q same h) empty)

long_by : (packed : Bool) (a b : List ℕ) (q : RingState) → length a ≡ length b → AgreeOn a b (if packed then packed_pieces a q else split_pieces a q)
    → ¬ (MatchBool packed (IsPackedEmpty a q) (IsSplitEmpty a q)) → MatchBool packed (IsLongPacked a q) (IsLongSplit a q) → MatchBool packed (IsLongPacked b q) (IsLongSplit b q)
long_by true a b q same h filled l = long_packed_local a b q same h filled l
long_by false a b q same h filled l = long_split_local a b q same h filled l

pub long_local : (a b : List ℕ) (q : RingState) → length a ≡ length b → AgreeOn a b (look_pieces a q) → IsLongQueue a q → IsLongQueue b q
long_local a b q same h l = record { waiting = waits_local a b q same h l.waiting; long = long_by q.is_packed a b q same h l.waiting l.long }

-- What a device sees in a queue, and where memory may be refused.
pub sees_local : (want : Wanted) (a b : List ℕ) (q : RingState) (seen : Next) → length a ≡ length b → AgreeOn a b (look_pieces a q) → Sees want a q seen → Sees want b q seen
sees_local want a b q seen same h s = record { answer = s.answer; answers = answers_local a b q s.answer same h s.answers; is = s.is }

wants_local : (a b : List ℕ) (q : RingState) (form : MessageForm) → length a ≡ length b → AgreeOn a b (look_pieces a q) → MayWantMemory a q form → MayWantMemory b q form
wants_local a b q form same h (inl long) = inl (long_local a b q same h long)
wants_local a b q form same h (inr m) = inr (record { chain = m.chain; answers = answers_local a b q (next.Chain m.chain) same h m.answers; is = m.is })

pub refuses_local : (want : Wanted) (a b : List ℕ) (q : RingState) → length a ≡ length b → AgreeOn a b (look_pieces a q) → MayRefuse want a q → MayRefuse want b q
refuses_local Room a b q same h may = long_local a b q same h may
refuses_local (Request header) a b q same h may = long_local a b q same h may
refuses_local (Message form) a b q same h may = wants_local a b q form same h may
