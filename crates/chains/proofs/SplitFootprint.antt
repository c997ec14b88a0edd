-- A look at a split queue reads no byte outside of its pieces.
use Rattle.std.specs.Prelude.{◌≡◌, ℕ, zero, suc, ◌+◌, ◌*◌, ◌/◌, ◌%◌, ◌^◌, ◌<◌, ◌≤◌, ◌==◌, ◌&&◌, nat_lt, nat_le, List, [], ◌∷◌, ◌++◌, length, Bool, true, false, refl, if◌then◌else◌}
use Rattle.std.proofs.Common.{ap, sym, subst, ◌∙◌, arith, get_or, length-append}
use Rattle.std.proofs.lemmas.Bool.{lt-ltb, le-leb, le-ltb, and_from, ne_eqb}
use Rattle.std.specs.Bool.{MatchBool}
use Rattle.guestmem.specs.Address.{IsWithin, index_of, is_within}
use Rattle.guestmem.specs.Number.{number_at}
use Rattle.chains.specs.declared.descriptor.Descriptor.{Descriptor}
use Rattle.chains.specs.declared.chain.Chain.{Chain}
use Rattle.chains.specs.declared.next.Next.{Next}
use Rattle.chains.specs.declared.next.Next.TheVariants.{Empty, Malformed, Chain as Found}
use Rattle.chains.specs.State.{RingState}
use Rattle.chains.specs.declared.lacking.Piece.{Piece}
use Rattle.chains.specs.Descriptor.{descriptor_at, descriptor_in}
use Rattle.chains.specs.Whole.{IsTable}
use Rattle.chains.specs.SplitChain.{AreLinked, IsFromTable, IsSplitChain, IsSplitEmpty, available_index, waiting, head}
use Rattle.chains.specs.Footprint.{AgreeAt, AgreeOn, entry_piece, list_pieces, no_piece, names_table, table_pieces, index_piece, head_piece, chain_pieces, split_pieces}
use Rattle.chains.proofs.DecoderLaws.{number_same}
use Rattle.chains.proofs.SplitLaws.{linked_some}
use Rattle.chains.specs.Ring.{Answers, IsChain, IsEmptyQueue}
use Rattle.chains.specs.PackedChain.{IsPackedChain, IsPackedEmpty}

-- Agreement is symmetric.
pub turned : (a b : List ℕ) (ps : List Piece) → AgreeOn a b ps → AgreeOn b a ps
turned a b [] h = tt
turned a b (p ∷ ps) (here, rest) = (λ k below. sym (here k below), turned a b ps rest)

-- A list of pieces that is there only under a test.
pub if_true : (a b : List ℕ) (c : Bool) (ps qs : List Piece) → c ≡ true → AgreeOn a b (if c then ps else qs) → AgreeOn a b ps
if_true a b true ps qs is h = h
if_true a b false ps qs is h = cc

pub if_false : (a b : List ℕ) (c : Bool) (ps qs : List Piece) → c ≡ false → AgreeOn a b (if c then ps else qs) → AgreeOn a b qs
if_false a b true ps qs is h = cc
if_false a b false ps qs is h = h

-- A descriptor is its sixteen bytes.
pub descriptor_local : (a b : List ℕ) (table index : ℕ) → AgreeAt a b (entry_piece table index) → descriptor_at false a table index ≡ descriptor_at false b table index
unfolding descriptor_at descriptor_in
descriptor_local a b table index h =
    let at = table + 16 * index in
    let first : number_at a at 8 ≡ number_at b at 8 = number_same a b at 8 (λ k below. h k (omega (arith, below))) in
    let shifted : (k : ℕ) → k < 8 → get_or a (at + 8 + k) 0 ≡ get_or b (at + 8 + k) 0 = λ k below.
    let same : at + (8 + k) ≡ at + 8 + k = omega arith in
    rw same at (h (8 + k) (omega (arith, below))) in
    let second : number_at a (at + 8) 8 ≡ number_at b (at + 8) 8 = number_same a b (at + 8) 8 shifted in
    rw (first, second) refl

-- A list of descriptors, where the walk has room for it, is read in its pieces.
pub linked_local : (behind : Descriptor → List Piece) (a b : List ℕ) (table entries room index : ℕ) (ds : List Descriptor) → length ds ≤ room
    → AgreeOn a b (list_pieces behind a table entries room index) → AreLinked a table entries index ds → AreLinked b table entries index ds
linked_local behind a b table entries zero index [] few h l = absurd l
linked_local behind a b table entries zero index (d ∷ ds) few h l = absurd (omega (arith, few))
linked_local behind a b table entries (suc room) index [] few h l = absurd l
linked_local behind a b table entries (suc room) index (d ∷ []) few h l =
    let da = descriptor_at false a table index in
    let rest = if da.has_next then list_pieces behind a table entries room da.next else behind da in
    let here = if_true a b (nat_lt index entries) (entry_piece table index ∷ rest) [] (lt-ltb index entries l.0) h in
    (l.0, l.1 ∙ descriptor_local a b table index here.0, l.2)
linked_local behind a b table entries (suc room) index (d ∷ e ∷ ds) few h l =
    let da = descriptor_at false a table index in
    let rest = if da.has_next then list_pieces behind a table entries room da.next else behind da in
    let here = if_true a b (nat_lt index entries) (entry_piece table index ∷ rest) [] (lt-ltb index entries l.0) h in
    let goes_on : da.has_next ≡ true = ap (λ (x : Descriptor). x.has_next) (sym l.1) ∙ l.2 in
    let behind_it = if_true a b da.has_next (list_pieces behind a table entries room da.next) (behind da) goes_on here.1 in
    let next : d.next ≡ da.next = ap (λ (x : Descriptor). x.next) l.1 in
    let back : da.next ≡ d.next = sym next in (
      l.0,
      l.1 ∙ descriptor_local a b table index here.0,
      l.2,
      linked_local behind a b table entries room d.next (e ∷ ds) (omega (arith, few)) (rw back at behind_it) l.3,
    )

-- Where the list ends, what is behind its last descriptor is read.
pub behind_local : (behind : Descriptor → List Piece) (a b : List ℕ) (table entries room index : ℕ) (front : List Descriptor) (last : Descriptor) → length front < room
    → AgreeOn a b (list_pieces behind a table entries room index) → AreLinked a table entries index (front ++ last ∷ []) → AgreeOn a b (behind last)
behind_local behind a b table entries zero index front last few h l = absurd (omega (arith, few))
behind_local behind a b table entries (suc room) index [] last few h l =
    let da = descriptor_at false a table index in
    let rest = if da.has_next then list_pieces behind a table entries room da.next else behind da in
    let here = if_true a b (nat_lt index entries) (entry_piece table index ∷ rest) [] (lt-ltb index entries l.0) h in
    let ends : da.has_next ≡ false = ap (λ (x : Descriptor). x.has_next) (sym l.1) ∙ l.2 in
    let read = if_false a b da.has_next (list_pieces behind a table entries room da.next) (behind da) ends here.1 in
    let back : da ≡ last = sym l.1 in
    rw back at read
behind_local behind a b table entries (suc room) index (d ∷ []) last few h l =
    let da = descriptor_at false a table index in
    let rest = if da.has_next then list_pieces behind a table entries room da.next else behind da in
    let here = if_true a b (nat_lt index entries) (entry_piece table index ∷ rest) [] (lt-ltb index entries l.0) h in
    let goes_on : da.has_next ≡ true = ap (λ (x : Descriptor). x.has_next) (sym l.1) ∙ l.2 in
    let read = if_true a b da.has_next (list_pieces behind a table entries room da.next) (behind da) goes_on here.1 in
    let back : da.next ≡ d.next = ap (λ (x : Descriptor). x.next) (sym l.1) in
    behind_local behind a b table entries room d.next [] last (omega (arith, few)) (rw back at read) l.3
behind_local behind a b table entries (suc room) index (d ∷ e ∷ front) last few h l =
    let da = descriptor_at false a table index in
    let rest = if da.has_next then list_pieces behind a table entries room da.next else behind da in
    let here = if_true a b (nat_lt index entries) (entry_piece table index ∷ rest) [] (lt-ltb index entries l.0) h in
    let goes_on : da.has_next ≡ true = ap (λ (x : Descriptor). x.has_next) (sym l.1) ∙ l.2 in
    let read = if_true a b da.has_next (list_pieces behind a table entries room da.next) (behind da) goes_on here.1 in
    let back : da.next ≡ d.next = ap (λ (x : Descriptor). x.next) (sym l.1) in
    behind_local behind a b table entries room d.next (e ∷ front) last (omega (arith, few)) (rw back at read) l.3

within_true : (base len address count : ℕ) → IsWithin base len address count → is_within base len address count ≡ true
within_true base len address count w =
    and_from (nat_lt address (2 ^ 64) && nat_le base address) (nat_le (address + count) (base + len))
    (and_from (nat_lt address (2 ^ 64)) (nat_le base address) (lt-ltb address (2 ^ 64) w.exists) (le-leb base address w.above))
    (le-leb (address + count) (base + len) w.below)

pub names_true : (base : ℕ) (ram : List ℕ) (has_indirect : Bool) (d : Descriptor) → d.is_indirect ≡ true → has_indirect ≡ true → IsTable base ram d → names_table base (length ram) has_indirect d ≡ true
names_true base ram has_indirect d named feature t =
    let whole : (d.len % 16 == 0) ≡ true = rw t.whole refl in
    let size = and_from (d.len % 16 == 0) (is_within base (length ram) d.addr d.len) whole (within_true base (length ram) d.addr d.len t.inside) in
    let some = and_from (nat_lt 0 d.len) (d.len % 16 == 0 && is_within base (length ram) d.addr d.len) (lt-ltb 0 d.len t.some) size in
    and_from d.is_indirect (has_indirect && (nat_lt 0 d.len && (d.len % 16 == 0 && is_within base (length ram) d.addr d.len))) named
    (and_from has_indirect (nat_lt 0 d.len && (d.len % 16 == 0 && is_within base (length ram) d.addr d.len)) feature some)

from_table_local : (a b : List ℕ) (q : RingState) (front : List Descriptor) (last : Descriptor) (all : List Descriptor) → length a ≡ length b → length all ≤ q.size → last.is_indirect ≡ true → q.has_indirect ≡ true
    → AgreeOn a b (table_pieces a q last) → IsFromTable q.base a front last all → IsFromTable q.base b front last all
from_table_local a b q front last all same few named feature h t =
    let read = if_true a b (names_table q.base (length a) q.has_indirect last) (list_pieces no_piece a (index_of q.base last.addr) (last.len / 16) q.size 0) [] (names_true q.base a q.has_indirect last named feature t.table) h in
    let sum : length all ≡ length (front ++ t.inner) = ap (λ (ds : List Descriptor). length ds) t.parts in
    let short : length t.inner ≤ q.size = omega (arith, few, sum, length-append front t.inner) in
    record {
      table = record { some = t.table.some; whole = t.table.whole; inside = rw same at t.table.inside };
      inner = t.inner;
      linked = linked_local no_piece a b (index_of q.base last.addr) (last.len / 16) q.size 0 t.inner short read t.linked;
      plain = t.plain;
      parts = t.parts;
    }

replaced_by : (named : Bool) (a b : List ℕ) (q : RingState) (front : List Descriptor) (last : Descriptor) (direct all : List Descriptor) → length a ≡ length b → length all ≤ q.size → last.is_indirect ≡ named
    → AgreeOn a b (table_pieces a q last) → MatchBool named ((q.has_indirect ≡ true) × IsFromTable q.base a front last all) (all ≡ direct) → MatchBool named ((q.has_indirect ≡ true) × IsFromTable q.base b front last all) (all ≡ direct)
replaced_by true a b q front last direct all same few named h (feature, t) = (feature, from_table_local a b q front last all same few named feature h t)
replaced_by false a b q front last direct all same few named h m = m

front_short : (named : Bool) (a : List ℕ) (q : RingState) (front : List Descriptor) (last : Descriptor) (direct all : List Descriptor) → direct ≡ front ++ last ∷ [] → length all ≤ q.size
    → MatchBool named ((q.has_indirect ≡ true) × IsFromTable q.base a front last all) (all ≡ direct) → length front < q.size
front_short true a q front last direct all parts few (feature, t) =
    let sum : length all ≡ length (front ++ t.inner) = ap (λ (ds : List Descriptor). length ds) t.parts in
    let some = linked_some a (index_of q.base last.addr) (last.len / 16) 0 t.inner t.linked in
    omega (arith, few, sum, length-append front t.inner, some)
front_short false a q front last direct all parts few m =
    let sum : length direct ≡ length (front ++ last ∷ []) = ap (λ (ds : List Descriptor). length ds) parts in
    let same : length all ≡ length direct = ap (λ (ds : List Descriptor). length ds) m in
    omega (arith, few, sum, same, length-append front (last ∷ []))

-- The driver's index, and the head, are two bytes each.
pub index_local : (a b : List ℕ) (q : RingState) → AgreeAt a b (index_piece q) → available_index a q ≡ available_index b q
index_local a b q h = number_same a b (q.driver + 2) 2 h

pub head_local : (a b : List ℕ) (q : RingState) → AgreeAt a b (head_piece q) → head a q ≡ head b q
head_local a b q h = number_same a b (q.driver + 4 + 2 * (q.taking.place % q.size)) 2 h

pub empty_local : (a b : List ℕ) (q : RingState) → AgreeOn a b (split_pieces a q) → IsSplitEmpty a q → IsSplitEmpty b q
empty_local a b q h empty = sym (index_local a b q h.0) ∙ empty

-- The pieces of a chain are read where the queue is not empty, and does not have more chains than slots.
pub chain_read : (a b : List ℕ) (q : RingState) → AgreeOn a b (split_pieces a q) → ¬ (IsSplitEmpty a q) → waiting a q ≤ q.size → AgreeOn a b (chain_pieces a q)
chain_read a b q h some few =
    let inner = if nat_lt q.size (waiting a q) then [] else chain_pieces a q in
    let read = if_false a b (available_index a q == q.taking.place) [] inner (ne_eqb (available_index a q) q.taking.place some) h.1 in
    if_false a b (nat_lt q.size (waiting a q)) [] (chain_pieces a q) (le-ltb q.size (waiting a q) few) read

-- A chain of a split queue is read in its pieces.
pub split_chain_local : (a b : List ℕ) (q : RingState) (c : Chain) → length a ≡ length b → AgreeOn a b (split_pieces a q) → ¬ (IsSplitEmpty a q) → IsSplitChain a q c → IsSplitChain b q c
split_chain_local a b q c same h some s =
    let r = s.replaced in
    let w = s.whole in
    let read = chain_read a b q h some s.available in
    let index : available_index a q ≡ available_index b q = index_local a b q h.0 in
    let first : head a q ≡ head b q = head_local a b q read.0 in
    let short : length r.front < q.size = front_short r.last.is_indirect a q r.front r.last s.direct s.all r.parts w.few r.whole in
    let count : length s.direct ≡ length (r.front ++ r.last ∷ []) = ap (λ (ds : List Descriptor). length ds) r.parts in
    let room : length s.direct ≤ q.size = omega (arith, count, short, length-append r.front (r.last ∷ [])) in
    let parts = r.parts in
    let spelled : AreLinked a q.descriptors q.size (head a q) (r.front ++ r.last ∷ []) = rw parts at s.linked in
    let behind : AgreeOn a b (table_pieces a q r.last) = behind_local (table_pieces a q) a b q.descriptors q.size q.size (head a q) r.front r.last short read.1 spelled in
    let linked : AreLinked b q.descriptors q.size (head a q) s.direct = linked_local (table_pieces a q) a b q.descriptors q.size q.size (head a q) s.direct room read.1 s.linked in
    record {
      direct = s.direct;
      all = s.all;
      available = rw index at s.available;
      linked = rw first at linked;
      replaced = record { front = r.front; last = r.last; parts = r.parts; plain = r.plain; whole = replaced_by r.last.is_indirect a b q r.front r.last s.direct s.all same w.few refl behind r.whole };
      whole = record { few = w.few; inside = rw same at w.inside; in_order = w.in_order; total = w.total };
      is = rw first at s.is;
    }

-- The pieces are the same by either RAM.
by_end : (f g : Descriptor → List Piece) (a b : List ℕ) (table entries room : ℕ) (d : Descriptor) (goes_on : Bool) → (AgreeOn a b (f d) → f d ≡ g d)
    → ((index : ℕ) → AgreeOn a b (list_pieces f a table entries room index) → list_pieces f a table entries room index ≡ list_pieces g b table entries room index)
    → AgreeOn a b (if goes_on then list_pieces f a table entries room d.next else f d)
    → (if goes_on then list_pieces f a table entries room d.next else f d) ≡ (if goes_on then list_pieces g b table entries room d.next else g d)
by_end f g a b table entries room d true ends rest h = rest d.next h
by_end f g a b table entries room d false ends rest h = ends h

by_entry : (c : Bool) (p : Piece) (a b : List ℕ) (xs ys : List Piece) → AgreeOn a b (if c then p ∷ xs else []) → (AgreeAt a b p → AgreeOn a b xs → xs ≡ ys) → (if c then p ∷ xs else []) ≡ (if c then p ∷ ys else [])
by_entry true p a b xs ys h f = ap (λ (zs : List Piece). p ∷ zs) (f h.0 h.1)
by_entry false p a b xs ys h f = refl

list_same : (f g : Descriptor → List Piece) (a b : List ℕ) (table entries room index : ℕ) → ((d : Descriptor) → AgreeOn a b (f d) → f d ≡ g d)
    → AgreeOn a b (list_pieces f a table entries room index) → list_pieces f a table entries room index ≡ list_pieces g b table entries room index
list_same f g a b table entries zero index ends h = refl
list_same f g a b table entries (suc room) index ends h =
    let da = descriptor_at false a table index in
    let db = descriptor_at false b table index in
    let xs = if da.has_next then list_pieces f a table entries room da.next else f da in
    let ys = if db.has_next then list_pieces g b table entries room db.next else g db in
    by_entry (nat_lt index entries) (entry_piece table index) a b xs ys h (λ here rest.
    let back : db ≡ da = sym (descriptor_local a b table index here) in
    rw back (by_end f g a b table entries room da da.has_next (ends da) (λ next read. list_same f g a b table entries room next ends read) rest))

pub by_test : (c : Bool) (a b : List ℕ) (xs ys : List Piece) → AgreeOn a b (if c then xs else []) → (AgreeOn a b xs → xs ≡ ys) → (if c then xs else []) ≡ (if c then ys else [])
by_test true a b xs ys h f = f h
by_test false a b xs ys h f = refl

by_else : (c : Bool) (a b : List ℕ) (xs ys : List Piece) → AgreeOn a b (if c then [] else xs) → (AgreeOn a b xs → xs ≡ ys) → (if c then [] else xs) ≡ (if c then [] else ys)
by_else true a b xs ys h f = refl
by_else false a b xs ys h f = f h

table_same : (a b : List ℕ) (q : RingState) (d : Descriptor) → length a ≡ length b → AgreeOn a b (table_pieces a q d) → table_pieces a q d ≡ table_pieces b q d
table_same a b q d same h =
    let xs = list_pieces no_piece a (index_of q.base d.addr) (d.len / 16) q.size 0 in
    let ys = list_pieces no_piece b (index_of q.base d.addr) (d.len / 16) q.size 0 in
    let back : length b ≡ length a = sym same in
    rw back (by_test (names_table q.base (length a) q.has_indirect d) a b xs ys h (list_same no_piece no_piece a b (index_of q.base d.addr) (d.len / 16) q.size 0 (λ e read. refl)))

chain_same_pieces : (a b : List ℕ) (q : RingState) → length a ≡ length b → AgreeOn a b (chain_pieces a q) → chain_pieces a q ≡ chain_pieces b q
chain_same_pieces a b q same h =
    let back : head b q ≡ head a q = sym (head_local a b q h.0) in
    let rest = list_same (table_pieces a q) (table_pieces b q) a b q.descriptors q.size q.size (head a q) (λ d read. table_same a b q d same read) h.1 in
    rw back (ap (λ (ps : List Piece). head_piece q ∷ ps) rest)

pub pieces_same : (a b : List ℕ) (q : RingState) → length a ≡ length b → AgreeOn a b (split_pieces a q) → split_pieces a q ≡ split_pieces b q
pieces_same a b q same h =
    let back : available_index b q ≡ available_index a q = sym (index_local a b q h.0) in
    let xs = if nat_lt q.size (waiting a q) then [] else chain_pieces a q in
    let ys = if nat_lt q.size (waiting a q) then [] else chain_pieces b q in
    let inner : AgreeOn a b xs → xs ≡ ys = λ read. by_else (nat_lt q.size (waiting a q)) a b (chain_pieces a q) (chain_pieces b q) read (chain_same_pieces a b q same) in
    rw back (ap (λ (ps : List Piece). index_piece q ∷ ps) (by_else (available_index a q == q.taking.place) a b xs ys h.1 inner))

pub back_read : (a b : List ℕ) (q : RingState) → length a ≡ length b → AgreeOn a b (split_pieces a q) → AgreeOn b a (split_pieces b q)
back_read a b q same h =
    let is : split_pieces a q ≡ split_pieces b q = pieces_same a b q same h in
    subst (λ (ps : List Piece). AgreeOn b a ps) is (turned a b (split_pieces a q) h)

-- What is said by the layout, of a split queue.
pub unpacked : (p : Bool) (P S : Type 0) → p ≡ false → MatchBool p P S → S
unpacked true P S is h = cc
unpacked false P S is h = h

pub as_split : (p : Bool) (P S : Type 0) → p ≡ false → S → MatchBool p P S
as_split true P S is h = cc
as_split false P S is h = h

empty_split : (ram : List ℕ) (q : RingState) → q.is_packed ≡ false → IsEmptyQueue ram q → IsSplitEmpty ram q
empty_split ram q split h = unpacked q.is_packed (IsPackedEmpty ram q) (IsSplitEmpty ram q) split h

split_empty : (ram : List ℕ) (q : RingState) → q.is_packed ≡ false → IsSplitEmpty ram q → IsEmptyQueue ram q
split_empty ram q split h = as_split q.is_packed (IsPackedEmpty ram q) (IsSplitEmpty ram q) split h

chain_split : (ram : List ℕ) (q : RingState) (c : Chain) → q.is_packed ≡ false → IsChain ram q c → IsSplitChain ram q c
chain_split ram q c split h = unpacked q.is_packed (IsPackedChain ram q c) (IsSplitChain ram q c) split h

split_chain : (ram : List ℕ) (q : RingState) (c : Chain) → q.is_packed ≡ false → IsSplitChain ram q c → IsChain ram q c
split_chain ram q c split h = as_split q.is_packed (IsPackedChain ram q c) (IsSplitChain ram q c) split h

-- What a split queue answers is read in these pieces.
pub split_answers_local : (a b : List ℕ) (q : RingState) (seen : Next) → q.is_packed ≡ false → length a ≡ length b → AgreeOn a b (split_pieces a q) → Answers a q seen → Answers b q seen
split_answers_local a b q Empty split same h answers = split_empty b q split (empty_local a b q h (empty_split a q split answers))
split_answers_local a b q Malformed split same h answers =
    let back = back_read a b q same h in
    let filled : ¬ (IsSplitEmpty b q) = λ empty. answers.0 (split_empty a q split (empty_local b a q back empty)) in (
      λ empty. filled (empty_split b q split empty),
      λ c is. answers.1 c (split_chain a q c split (split_chain_local b a q c (sym same) back filled (chain_split b q c split is))),
    )
split_answers_local a b q (Found c) split same h answers =
    let back = back_read a b q same h in
    let filled : ¬ (IsSplitEmpty a q) = λ empty. answers.0 (split_empty a q split empty) in (
      λ empty. answers.0 (split_empty a q split (empty_local b a q back (empty_split b q split empty))),
      split_chain b q c split (split_chain_local a b q c same h filled (chain_split a q c split answers.1)),
    )
