-- A look at a packed queue reads no byte outside of its pieces.
use Rattle.std.specs.Prelude.{◌≡◌, ◌≢◌, ℕ, zero, suc, ◌+◌, ◌*◌, ◌/◌, ◌%◌, ◌<◌, ◌≤◌, ◌&&◌, nat_le, List, [], ◌∷◌, ◌++◌, length, Bool, true, false, refl, if◌then◌else◌}
use Rattle.std.proofs.Common.{ap, sym, subst, ◌∙◌, arith, get_or, length-append}
use Rattle.std.proofs.lemmas.Bool.{and_from, le-leb}
use Rattle.std.specs.Bool.{MatchBool}
use Rattle.guestmem.specs.Address.{index_of}
use Rattle.guestmem.specs.Number.{number_at}
use Rattle.chains.specs.declared.descriptor.Descriptor.{Descriptor}
use Rattle.chains.specs.declared.lacking.Piece.{Piece}
use Rattle.chains.specs.declared.chain.Chain.{Chain}
use Rattle.chains.specs.State.{RingState}
use Rattle.chains.specs.Descriptor.{descriptor_at, descriptor_in}
use Rattle.chains.specs.PackedChain.{AreConsecutive, IsAvailable, IsPackedChain, IsPackedEmpty, IsPackedTable, entries_from}
use Rattle.chains.specs.Footprint.{AgreeAt, AgreeOn, entry_piece, is_available, names_table, packed_pieces, slot_pieces, whole_table}
use Rattle.chains.proofs.DecoderLaws.{number_same}
use Rattle.chains.proofs.ChainLaws.{length_entries}
use Rattle.chains.proofs.SplitFootprint.{by_test, if_true, if_false, names_true, turned}
use Rattle.chains.specs.SplitChain.{IsSplitChain, IsSplitEmpty}
use Rattle.chains.specs.Ring.{Answers}
use Rattle.chains.specs.declared.next.Next.{Next}
use Rattle.chains.specs.declared.next.Next.TheVariants.{Empty, Malformed, Chain as Found}

pub packed_descriptor_local : (a b : List ℕ) (table index : ℕ) → AgreeAt a b (entry_piece table index) → descriptor_at true a table index ≡ descriptor_at true b table index
unfolding descriptor_at descriptor_in
packed_descriptor_local a b table index h =
    let at = table + 16 * index in
    let first : number_at a at 8 ≡ number_at b at 8 = number_same a b at 8 (λ k below. h k (omega (arith, below))) in
    let shifted : (k : ℕ) → k < 8 → get_or a (at + 8 + k) 0 ≡ get_or b (at + 8 + k) 0 = λ k below.
    let same : at + (8 + k) ≡ at + 8 + k = omega arith in
    rw same at (h (8 + k) (omega (arith, below))) in
    let second : number_at a (at + 8) 8 ≡ number_at b (at + 8) 8 = number_same a b (at + 8) 8 shifted in
    rw (first, second) refl

consecutive_local : (behind : Descriptor → List Piece) (a b : List ℕ) (table size room slot : ℕ) (ds : List Descriptor) → length ds ≤ room
    → AgreeOn a b (slot_pieces behind a table size room slot) → AreConsecutive a table size slot ds → AreConsecutive b table size slot ds
consecutive_local behind a b table size zero slot [] few h l = absurd l
consecutive_local behind a b table size zero slot (d ∷ ds) few h l = absurd (omega (arith, few))
consecutive_local behind a b table size (suc room) slot [] few h l = absurd l
consecutive_local behind a b table size (suc room) slot (d ∷ []) few h l = (l.0 ∙ packed_descriptor_local a b table slot h.0, l.1)
consecutive_local behind a b table size (suc room) slot (d ∷ e ∷ ds) few h l =
    let da = descriptor_at true a table slot in
    let goes_on : da.has_next ≡ true = ap (λ (x : Descriptor). x.has_next) (sym l.0) ∙ l.1 in
    let read = if_true a b da.has_next (slot_pieces behind a table size room ((slot + 1) % size)) (behind da) goes_on h.1 in
    (l.0 ∙ packed_descriptor_local a b table slot h.0, l.1, consecutive_local behind a b table size room ((slot + 1) % size) (e ∷ ds) (omega (arith, few)) read l.2)

behind_consecutive : (behind : Descriptor → List Piece) (a b : List ℕ) (table size room slot : ℕ) (front : List Descriptor) (last : Descriptor) → length front < room
    → AgreeOn a b (slot_pieces behind a table size room slot) → AreConsecutive a table size slot (front ++ last ∷ []) → AgreeOn a b (behind last)
behind_consecutive behind a b table size zero slot front last few h l = absurd (omega (arith, few))
behind_consecutive behind a b table size (suc room) slot [] last few h l =
    let da = descriptor_at true a table slot in
    let ends : da.has_next ≡ false = ap (λ (x : Descriptor). x.has_next) (sym l.0) ∙ l.1 in
    let read = if_false a b da.has_next (slot_pieces behind a table size room ((slot + 1) % size)) (behind da) ends h.1 in
    let back : da ≡ last = sym l.0 in
    rw back at read
behind_consecutive behind a b table size (suc room) slot (d ∷ []) last few h l =
    let da = descriptor_at true a table slot in
    let goes_on : da.has_next ≡ true = ap (λ (x : Descriptor). x.has_next) (sym l.0) ∙ l.1 in
    let read = if_true a b da.has_next (slot_pieces behind a table size room ((slot + 1) % size)) (behind da) goes_on h.1 in
    behind_consecutive behind a b table size room ((slot + 1) % size) [] last (omega (arith, few)) read l.2
behind_consecutive behind a b table size (suc room) slot (d ∷ e ∷ front) last few h l =
    let da = descriptor_at true a table slot in
    let goes_on : da.has_next ≡ true = ap (λ (x : Descriptor). x.has_next) (sym l.0) ∙ l.1 in
    let read = if_true a b da.has_next (slot_pieces behind a table size room ((slot + 1) % size)) (behind da) goes_on h.1 in
    behind_consecutive behind a b table size room ((slot + 1) % size) (e ∷ front) last (omega (arith, few)) read l.2

-- The entries of a table are read in one piece.
pub entries_local : (a b : List ℕ) (table index count : ℕ) → AgreeAt a b (record { at = table + 16 * index; count = 16 * count }) → entries_from a table index count ≡ entries_from b table index count
entries_local a b table index zero h = refl
entries_local a b table index (suc count) h =
    let here = packed_descriptor_local a b table index (λ k below. h k (omega (arith, below))) in
    let shifted : (k : ℕ) → k < 16 * count → get_or a (table + 16 * (index + 1) + k) 0 ≡ get_or b (table + 16 * (index + 1) + k) 0 = λ k below.
    let at : table + 16 * index + (16 + k) ≡ table + 16 * (index + 1) + k = omega arith in
    rw at at (h (16 + k) (omega (arith, below))) in
    rw (here, entries_local a b table (index + 1) count shifted) refl

table_local : (a b : List ℕ) (q : RingState) (front : List Descriptor) (last : Descriptor) (all : List Descriptor) → length a ≡ length b → length all ≤ q.size → last.is_indirect ≡ true → q.has_indirect ≡ true
    → AgreeOn a b (whole_table a q last) → IsPackedTable q.base a front last all → IsPackedTable q.base b front last all
table_local a b q front last all same few named feature h t =
    let count : length all ≡ last.len / 16 = ap (λ (ds : List Descriptor). length ds) t.entries ∙ length_entries a (index_of q.base last.addr) 0 (last.len / 16) in
    let short : last.len / 16 ≤ q.size = omega (arith, few, count) in
    let test = and_from (names_table q.base (length a) q.has_indirect last) (nat_le (last.len / 16) q.size) (names_true q.base a q.has_indirect last named feature t.table) (le-leb (last.len / 16) q.size short) in
    let piece : Piece = record { at = index_of q.base last.addr; count = 16 * (last.len / 16) } in
    let read = if_true a b (names_table q.base (length a) q.has_indirect last && nat_le (last.len / 16) q.size) (piece ∷ []) [] test h in
    let shifted : (k : ℕ) → k < 16 * (last.len / 16) → get_or a (index_of q.base last.addr + 16 * 0 + k) 0 ≡ get_or b (index_of q.base last.addr + 16 * 0 + k) 0 = λ k below.
    let at : index_of q.base last.addr + k ≡ index_of q.base last.addr + 16 * 0 + k = omega arith in
    rw at at (read.0 k below) in
    record {
      alone = t.alone;
      table = record { some = t.table.some; whole = t.table.whole; inside = rw same at t.table.inside };
      entries = t.entries ∙ entries_local a b (index_of q.base last.addr) 0 (last.len / 16) shifted;
    }

replaced_local : (named : Bool) (a b : List ℕ) (q : RingState) (front : List Descriptor) (last : Descriptor) (all : List Descriptor) → length a ≡ length b → length all ≤ q.size → last.is_indirect ≡ named
    → AgreeOn a b (whole_table a q last) → MatchBool named ((q.has_indirect ≡ true) × IsPackedTable q.base a front last all) (all ≡ front ++ last ∷ []) → MatchBool named ((q.has_indirect ≡ true) × IsPackedTable q.base b front last all) (all ≡ front ++ last ∷ [])
replaced_local true a b q front last all same few named h (feature, t) = (feature, table_local a b q front last all same few named feature h t)
replaced_local false a b q front last all same few named h m = m

front_few : (named : Bool) (a : List ℕ) (q : RingState) (front : List Descriptor) (last : Descriptor) (all : List Descriptor) → length all ≤ q.size
    → MatchBool named ((q.has_indirect ≡ true) × IsPackedTable q.base a front last all) (all ≡ front ++ last ∷ []) → length front < q.size
front_few true a q front last all few (feature, t) =
    let some : 1 ≤ last.len / 16 = omega (arith, t.table.some, t.table.whole) in
    let count : length all ≡ last.len / 16 = ap (λ (ds : List Descriptor). length ds) t.entries ∙ length_entries a (index_of q.base last.addr) 0 (last.len / 16) in
    omega (arith, some, count, few, ap (λ (ds : List Descriptor). length ds) t.alone)
front_few false a q front last all few m = omega (arith, few, length-append front (last ∷ []), ap (λ (ds : List Descriptor). length ds) m)

pub available_true : (wrap avail used : Bool) → ¬ (¬ ((avail ≡ wrap) × (used ≢ wrap))) → is_available wrap avail used ≡ true
available_true true true true filled = absurd (filled (λ p. p.1 refl))
available_true true true false filled = refl
available_true true false used filled = absurd (filled (λ p. let bad : false ≡ true = p.0 in cc))
available_true false true used filled = absurd (filled (λ p. let bad : true ≡ false = p.0 in cc))
available_true false false true filled = refl
available_true false false false filled = absurd (filled (λ p. p.1 refl))

-- A chain of a packed queue is read in its pieces.
pub packed_chain_local : (a b : List ℕ) (q : RingState) (c : Chain) → length a ≡ length b → AgreeOn a b (packed_pieces a q) → ¬ (IsPackedEmpty a q)
    → IsPackedChain a q c → IsPackedChain b q c
packed_chain_local a b q c same h filled s =
    let l = s.list in
    let w = s.whole in
    let d = descriptor_at true a q.descriptors q.taking.place in
    let slots = slot_pieces (whole_table a q) a q.descriptors q.size q.size q.taking.place in
    let read = if_true a b (is_available q.taking.wrap d.avail_flag d.used_flag) slots [] (available_true q.taking.wrap d.avail_flag d.used_flag filled) h.1 in
    let short : length s.front < q.size = front_few s.last.is_indirect a q s.front s.last s.all w.few l.replaced in
    let room : length (s.front ++ s.last ∷ []) ≤ q.size = omega (arith, short, length-append s.front (s.last ∷ [])) in
    let behind : AgreeOn a b (whole_table a q s.last) = behind_consecutive (whole_table a q) a b q.descriptors q.size q.size q.taking.place s.front s.last short read l.consecutive in
    record {
      front = s.front;
      last = s.last;
      all = s.all;
      list = record {
        consecutive = consecutive_local (whole_table a q) a b q.descriptors q.size q.size q.taking.place (s.front ++ s.last ∷ []) room read l.consecutive;
        plain = l.plain;
        replaced = replaced_local s.last.is_indirect a b q s.front s.last s.all same w.few refl behind l.replaced;
      };
      whole = record { few = w.few; inside = rw same at w.inside; in_order = w.in_order; total = w.total };
      is = s.is;
    }

pub packed_empty_local : (a b : List ℕ) (q : RingState) → AgreeOn a b (packed_pieces a q) → IsPackedEmpty a q → IsPackedEmpty b q
packed_empty_local a b q h empty = λ available.
    let back = sym (packed_descriptor_local a b q.descriptors q.taking.place h.0) in
    empty (subst (λ (d : Descriptor). IsAvailable q.taking.wrap d) back available)

by_slot : (f g : Descriptor → List Piece) (a b : List ℕ) (table size room slot : ℕ) (d : Descriptor) (goes_on : Bool) → (AgreeOn a b (f d) → f d ≡ g d)
    → (AgreeOn a b (slot_pieces f a table size room slot) → slot_pieces f a table size room slot ≡ slot_pieces g b table size room slot)
    → AgreeOn a b (if goes_on then slot_pieces f a table size room slot else f d)
    → (if goes_on then slot_pieces f a table size room slot else f d) ≡ (if goes_on then slot_pieces g b table size room slot else g d)
by_slot f g a b table size room slot d true ends rest h = rest h
by_slot f g a b table size room slot d false ends rest h = ends h

slots_same : (f g : Descriptor → List Piece) (a b : List ℕ) (table size room slot : ℕ) → ((d : Descriptor) → AgreeOn a b (f d) → f d ≡ g d)
    → AgreeOn a b (slot_pieces f a table size room slot) → slot_pieces f a table size room slot ≡ slot_pieces g b table size room slot
slots_same f g a b table size zero slot ends h = refl
slots_same f g a b table size (suc room) slot ends h =
    let da = descriptor_at true a table slot in
    let back : descriptor_at true b table slot ≡ da = sym (packed_descriptor_local a b table slot h.0) in
    rw back (ap (λ (ps : List Piece). entry_piece table slot ∷ ps) (by_slot f g a b table size room ((slot + 1) % size) da da.has_next (ends da) (slots_same f g a b table size room ((slot + 1) % size) ends) h.1))

-- The pieces are the same by either RAM.
pub packed_pieces_same : (a b : List ℕ) (q : RingState) → length a ≡ length b → AgreeOn a b (packed_pieces a q) → packed_pieces a q ≡ packed_pieces b q
packed_pieces_same a b q same h =
    let da = descriptor_at true a q.descriptors q.taking.place in
    let back : descriptor_at true b q.descriptors q.taking.place ≡ da = sym (packed_descriptor_local a b q.descriptors q.taking.place h.0) in
    let shorter : length b ≡ length a = sym same in
    let tables : (d : Descriptor) → AgreeOn a b (whole_table a q d) → whole_table a q d ≡ whole_table b q d = λ d read. rw shorter refl in
    let xs = slot_pieces (whole_table a q) a q.descriptors q.size q.size q.taking.place in
    let ys = slot_pieces (whole_table b q) b q.descriptors q.size q.size q.taking.place in
    let rest : AgreeOn a b xs → xs ≡ ys = slots_same (whole_table a q) (whole_table b q) a b q.descriptors q.size q.size q.taking.place tables in
    rw back (ap (λ (ps : List Piece). entry_piece q.descriptors q.taking.place ∷ ps) (by_test (is_available q.taking.wrap da.avail_flag da.used_flag) a b xs ys h.1 rest))

pub packed_back : (a b : List ℕ) (q : RingState) → length a ≡ length b → AgreeOn a b (packed_pieces a q) → AgreeOn b a (packed_pieces b q)
packed_back a b q same h = subst (λ (ps : List Piece). AgreeOn b a ps) (packed_pieces_same a b q same h) (turned a b (packed_pieces a q) h)

pub by_packed : (p : Bool) (P S : Type 0) → p ≡ true → MatchBool p P S → P
by_packed true P S is h = h
by_packed false P S is h = cc

pub as_packed : (p : Bool) (P S : Type 0) → p ≡ true → P → MatchBool p P S
as_packed true P S is h = h
as_packed false P S is h = cc

-- What a packed queue answers is read in these pieces.
pub packed_answers_local : (a b : List ℕ) (q : RingState) (seen : Next) → q.is_packed ≡ true → length a ≡ length b → AgreeOn a b (packed_pieces a q) → Answers a q seen → Answers b q seen
packed_answers_local a b q Empty packed same h answers =
    as_packed q.is_packed (IsPackedEmpty b q) (IsSplitEmpty b q) packed (packed_empty_local a b q h (by_packed q.is_packed (IsPackedEmpty a q) (IsSplitEmpty a q) packed answers))
packed_answers_local a b q Malformed packed same h answers =
    let back = packed_back a b q same h in
    let filled : ¬ (IsPackedEmpty b q) = λ empty. answers.0 (as_packed q.is_packed (IsPackedEmpty a q) (IsSplitEmpty a q) packed (packed_empty_local b a q back empty)) in (
      λ empty. filled (by_packed q.is_packed (IsPackedEmpty b q) (IsSplitEmpty b q) packed empty),
      λ c is. answers.1 c (as_packed q.is_packed (IsPackedChain a q c) (IsSplitChain a q c) packed (packed_chain_local b a q c (sym same) back filled (by_packed q.is_packed (IsPackedChain b q c) (IsSplitChain b q c) packed is))),
    )
packed_answers_local a b q (Found c) packed same h answers =
    let back = packed_back a b q same h in
    let filled : ¬ (IsPackedEmpty a q) = λ empty. answers.0 (as_packed q.is_packed (IsPackedEmpty a q) (IsSplitEmpty a q) packed empty) in (
      λ empty. answers.0 (as_packed q.is_packed (IsPackedEmpty a q) (IsSplitEmpty a q) packed (packed_empty_local b a q back (by_packed q.is_packed (IsPackedEmpty b q) (IsSplitEmpty b q) packed empty))),
      as_packed q.is_packed (IsPackedChain b q c) (IsSplitChain b q c) packed (packed_chain_local a b q c same h filled (by_packed q.is_packed (IsPackedChain a q c) (IsSplitChain a q c) packed answers.1)),
    )
