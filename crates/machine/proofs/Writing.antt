-- What a step writes, by what was known of it before.
use Rattle.std.specs.Prelude.{◌≡◌, ℕ, zero, suc, ◌+◌, ◌*◌, ◌-◌, ◌<◌, ◌≤◌, nat_lt, min, List, [], ◌∷◌, ◌++◌, length, map, take, drop, Bool, true, false, Option, Some, None, slice_get, slice_set, All, Result, Ok, Err, IfOk, refl, if◌then◌else◌}
use Rattle.std.proofs.Common.{ap, sym, subst, ◌∙◌, append_assoc, arith, length-append}
use Rattle.std.proofs.lemmas.List.{append-nil, drop-append-le, drop-drop, drop-map, drop-take, drop_all, length-drop, length-map, length-take, take-append-le, take-map, take-take, take_at, take_min}
use Rattle.std.proofs.lemmas.List.Elements.{All-head, All-tail}
use Rattle.std.proofs.lemmas.Option.{get_or_from_slice_get, slice_get_within}
use Rattle.std.proofs.Math.Seq.{drop-append-add}
use borrow.Author.Tests.{ltb-true, ltb-false}
use Rattle.guestmem.specs.Address.{index_of}
use Rattle.guestmem.specs.Memory.{Memory}
use Rattle.chains.specs.Footprint.{place_pieces}
use Rattle.chains.specs.Look.{fits, seen_as}
use Rattle.chains.specs.Places.{AreSegmentsInside, addresses, last_place, places}
use Rattle.chains.specs.Publish.{after_take}
use Rattle.chains.specs.Ring.{Answers}
use Rattle.chains.specs.State.{HasAreas, RingState}
use Rattle.mmio.specs.Areas.{device_bytes}
use Rattle.chains.specs.declared.chain.Chain.{Chain}
use Rattle.chains.specs.declared.lacking.Piece.{Piece}
use Rattle.chains.specs.declared.looking.Wanted.{Wanted}
use Rattle.chains.specs.declared.next.Next.{Next}
use Rattle.chains.specs.declared.next.Next.TheVariants as next
use Rattle.chains.specs.declared.segs.Seg.{Seg}
use Rattle.chains.proofs.ChainLaws.{answer_same}
use Rattle.chains.proofs.PlaceLaws.{addresses_add, length_addresses}
use Rattle.blk.specs.Sectors.{AreWhole, Sector}
use Rattle.blk.specs.declared.request.Kind.{Kind}
use Rattle.blk.specs.declared.request.Kind.TheVariants as work
use Rattle.blk.specs.declared.request.Request.{Request}
use Rattle.machine.specs.Applied.{as_given}
use Rattle.machine.specs.Asked.{MayAnswer}
use Rattle.machine.specs.DeviceStep.{MayLook, advanced_at, device_step, looked_at, requests_of, step_at, wanted_of}
use Rattle.machine.specs.Footprint.{has_published}
use Rattle.machine.specs.Outcome.{Outcome, fine, disk_failed as failing, no_memory, outcome_of}
use Rattle.machine.specs.Parked.{back_with}
use Rattle.machine.specs.Effect.{Effect}
use Rattle.machine.specs.Seen.{DeviceSeen, state_of}
use Rattle.machine.specs.Shapes.{made_as}
use Rattle.machine.specs.Sound.{IsSoundDevice, IsSoundShape}
use Rattle.machine.specs.Step.{MaySeeAt, disk_of, disk_or_none, step_device}
use Rattle.machine.specs.declared.event.Event.TheVariants.{Step}
use Rattle.machine.specs.declared.kind.Kind.TheVariants.{Network, Block, Outside, Console, Entropy}
use Rattle.machine.specs.State.{DeviceState, base_of}
use Rattle.machine.specs.Stored.{HasId, advance_writes, chain_writes, device_writes, indexes_in, indexes_of, published_pieces, request_writes, seen_writes, unit_writes, writes_at}
use Rattle.machine.specs.Writing.{IsApartAtEnd, IsFrom, IsNext, IsStoring, StepStores, StoresBy, StoringIsWrites, Writing, a_chain, a_request, advancing_at, an_empty, chain_places, end_of, in_two, last_of, note_of, nothing, places_of, request_on, request_places, rest_from, segments_of, unit_places, unread, unread_in, writes_of, writing_base, writing_by, writing_on}
use Rattle.machine.specs.declared.kind.Kind as kinds
use Rattle.machine.specs.declared.reply.Reply.{Reply}
use Rattle.machine.specs.declared.reply.Reply.TheVariants as replies
use Rattle.machine.proofs.At.{IsAt, found, past as gone}
use Rattle.machine.proofs.Asked.{malformed_quiet}
use Rattle.machine.proofs.Stepping.{advanced_sound, none_whole, outside_sound}
use Rattle.machine.proofs.Stored.{device_indexes}

-- The indexes of places, and of lists of pieces.
pub indexes_both : (ps qs : List Piece) → indexes_of (ps ++ qs) ≡ indexes_of ps ++ indexes_of qs
indexes_both [] qs = refl
indexes_both (p ∷ ps) qs = rw (indexes_both ps qs) (sym (append_assoc (addresses p.at p.count) (indexes_of ps) (indexes_of qs)))

pub place_indexes : (base : ℕ) (at : List ℕ) → indexes_of (place_pieces base at) ≡ map (index_of base) at
place_indexes base [] = refl
place_indexes base (x ∷ at) = ap (λ (is : List ℕ). index_of base x ∷ is) (place_indexes base at)

both_of : (base : ℕ) (at : List ℕ) (ps : List Piece) → indexes_of (place_pieces base at ++ ps) ≡ map (index_of base) at ++ indexes_of ps
both_of base at ps = indexes_both (place_pieces base at) ps ∙ ap (λ (is : List ℕ). is ++ indexes_of ps) (place_indexes base at)

only_of : (base : ℕ) (at : List ℕ) → indexes_of (place_pieces base at) ≡ map (index_of base) at ++ []
only_of base at = place_indexes base at ∙ sym (append-nil (map (index_of base) at))

-- The writes are the places, and then the last pieces.
chain_split : (q : RingState) (c : Chain) (reply : Reply) → indexes_of (chain_writes q c reply) ≡ map (index_of q.base) (chain_places c reply) ++ indexes_of (if has_published reply then published_pieces (after_take q c.slots) else [])
chain_split q c (replies.Completed len) = both_of q.base (take len (places c.writable)) (published_pieces (after_take q c.slots))
chain_split q c (replies.Sent bytes) = refl
chain_split q c replies.Idle = refl
chain_split q c replies.Taken = refl
chain_split q c replies.Moved = refl
chain_split q c replies.BadSector = refl
chain_split q c replies.DiskFailed = refl
chain_split q c replies.Dropped = refl
chain_split q c replies.NeedsReset = refl
chain_split q c replies.NoMemory = refl
chain_split q c (replies.Refused why) = refl
chain_split q c (replies.Value value) = refl
chain_split q c replies.Done = refl
chain_split q c (replies.OutByte byte) = refl
chain_split q c (replies.Bytes bytes) = refl
chain_split q c (replies.Accepted count) = refl

empty_split : (q : RingState) (reply : Reply) → indexes_of (seen_writes q next.Empty reply) ≡ indexes_of (note_of q reply)
empty_split q replies.Idle = refl
empty_split q (replies.Completed len) = refl
empty_split q (replies.Sent bytes) = refl
empty_split q replies.Taken = refl
empty_split q replies.Moved = refl
empty_split q replies.BadSector = refl
empty_split q replies.DiskFailed = refl
empty_split q replies.Dropped = refl
empty_split q replies.NeedsReset = refl
empty_split q replies.NoMemory = refl
empty_split q (replies.Refused why) = refl
empty_split q (replies.Value value) = refl
empty_split q replies.Done = refl
empty_split q (replies.OutByte byte) = refl
empty_split q (replies.Bytes bytes) = refl
empty_split q (replies.Accepted count) = refl

unit_split : (kind : Kind) (base : ℕ) (r : Request) → indexes_of (unit_writes kind base r) ≡ map (index_of base) (unit_places kind r) ++ []
unit_split work.In base r = only_of base (unit_places work.In r)
unit_split work.GetId base r = only_of base (unit_places work.GetId r)
unit_split work.Refused base r = refl
unit_split work.Out base r = refl
unit_split work.Flush base r = refl
unit_split work.Zero base r = refl

request_split : (q : RingState) (r : Request) (reply : Reply) → indexes_of (request_writes q (Some r) reply) ≡ map (index_of q.base) (request_places r reply) ++ indexes_of (end_of q reply)
request_split q r replies.Moved = unit_split r.kind q.base r
request_split q r (replies.Completed len) = both_of q.base (last_place r.writable) (published_pieces q)
request_split q r replies.Idle = refl
request_split q r (replies.Sent bytes) = refl
request_split q r replies.Taken = refl
request_split q r replies.BadSector = refl
request_split q r replies.DiskFailed = refl
request_split q r replies.Dropped = refl
request_split q r replies.NeedsReset = refl
request_split q r replies.NoMemory = refl
request_split q r (replies.Refused why) = refl
request_split q r (replies.Value value) = refl
request_split q r replies.Done = refl
request_split q r (replies.OutByte byte) = refl
request_split q r (replies.Bytes bytes) = refl
request_split q r (replies.Accepted count) = refl

pub writes_split : (w : Writing) (reply : Reply) → indexes_of (writes_of w reply) ≡ map (index_of (writing_base w)) (places_of w reply) ++ indexes_of (last_of w reply)
writes_split nothing reply = refl
writes_split (an_empty q first) reply = empty_split q reply
writes_split (a_chain q c) reply = chain_split q c reply
writes_split (a_request q r) reply = request_split q r reply

-- Segments, from a byte on.
past : (a n skip : ℕ) (ys : List ℕ) → n ≤ skip → drop skip (addresses a n ++ ys) ≡ drop (skip - n) ys
past a n skip ys more =
    let long = length_addresses a n in
    let is : skip ≡ length (addresses a n) + (skip - n) = omega (arith, more, long) in
    subst (λ (s : ℕ). drop s (addresses a n ++ ys) ≡ drop (skip - n) ys) (sym is) (drop-append-add (addresses a n) ys (skip - n))

within : (a n skip : ℕ) (ys : List ℕ) → skip ≤ n → drop skip (addresses a n ++ ys) ≡ addresses (a + skip) (n - skip) ++ ys
within a n skip ys few =
    let is : n ≡ skip + (n - skip) = omega (arith, few) in
    let long = length_addresses a skip in
    let same : skip ≡ length (addresses a skip) + 0 = omega (arith, long) in
    let split : addresses a n ≡ addresses a skip ++ addresses (a + skip) (n - skip) = ap (addresses a) is ∙ addresses_add a skip (n - skip) in
    let spread : addresses a n ++ ys ≡ addresses a skip ++ (addresses (a + skip) (n - skip) ++ ys) = ap (λ (xs : List ℕ). xs ++ ys) split ∙ append_assoc (addresses a skip) (addresses (a + skip) (n - skip)) ys in
    ap (drop skip) spread ∙ subst (λ (s : ℕ). drop s (addresses a skip ++ (addresses (a + skip) (n - skip) ++ ys)) ≡ addresses (a + skip) (n - skip) ++ ys) (sym same) (drop-append-add (addresses a skip) (addresses (a + skip) (n - skip) ++ ys) 0)

-- What is next among the first indexes.
pub count_there : (xs : List ℕ) (p : Piece) → IsFrom xs 0 p → p.count ≤ length xs
count_there xs p h =
    let count = length_addresses p.at p.count in
    let cut = length-take p.count xs in
    let same : length (addresses p.at p.count) ≡ length (take p.count xs) = ap (λ (is : List ℕ). length is) h.is in
    omega (arith, count, cut, same)

from_first : (xs ys : List ℕ) (n : ℕ) (p : Piece) → n < length xs → IsFrom (drop n xs) 0 p → IsFrom (xs ++ ys) n p
from_first xs ys n p below h =
    let spread : drop n (xs ++ ys) ≡ drop n xs ++ ys = drop-append-le n xs ys (omega (arith, below)) in
    let same : take p.count (drop n (xs ++ ys)) ≡ take p.count (drop n xs) = ap (take p.count) spread ∙ take-append-le p.count (drop n xs) ys (count_there (drop n xs) p h) in
    record { some = h.some; is = h.is ∙ sym same }

next_first : (xs ys : List ℕ) (n : ℕ) (r : Option Piece) → n < length xs → IsNext (drop n xs) 0 r → IsNext (xs ++ ys) n r
next_first xs ys n None below h =
    let long : length (drop n xs) ≤ 0 = h in
    absurd (omega (arith, below, long, length-drop n xs))
next_first xs ys n (Some p) below h = from_first xs ys n p below h

some_is : (p q : Piece) → Some p ≡ Some q → p ≡ q
some_is p q is = cc

before_end : (xs : List ℕ) (n : ℕ) (r : Option Piece) (p : Piece) → IsNext (drop n xs) 0 r → r ≡ Some p → n < length xs → n + p.count ≤ length xs
before_end xs n None p h is below = cc
before_end xs n (Some q) p h is below =
    let same : q.count ≡ p.count = ap (λ (x : Piece). x.count) (some_is q p is) in
    omega (arith, same, below, count_there (drop n xs) q h, length-drop n xs)

-- And behind them.
next_past : (xs ys : List ℕ) (n : ℕ) (r : Option Piece) → length xs ≤ n → IsNext ys (n - length xs) r → IsNext (xs ++ ys) n r
next_past xs ys n None more h =
    let rest : length ys ≤ n - length xs = h in
    omega (arith, more, rest, length-append xs ys)
next_past xs ys n (Some p) more h =
    let is : n ≡ length xs + (n - length xs) = omega (arith, more) in
    let behind : drop n (xs ++ ys) ≡ drop (n - length xs) ys = subst (λ (s : ℕ). drop s (xs ++ ys) ≡ drop (n - length xs) ys) (sym is) (drop-append-add xs ys (n - length xs)) in
    record { some = h.some; is = h.is ∙ ap (take p.count) (sym behind) }

rest_by : (below : Bool) (p : Piece) (ps : List Piece) (n : ℕ) → nat_lt n p.count ≡ below → IsNext (indexes_of ps) (n - p.count) (rest_from ps (n - p.count))
    → IsNext (indexes_of (p ∷ ps)) n (if below then Some (record { at = p.at + n; count = p.count - n }) else rest_from ps (n - p.count))
rest_by true p ps n is rest =
    let here : n < p.count = ltb-true n p.count is in
    let behind = within p.at p.count n (indexes_of ps) (omega (arith, here)) in
    let cut : take (p.count - n) (drop n (addresses p.at p.count ++ indexes_of ps)) ≡ addresses (p.at + n) (p.count - n) =
    ap (take (p.count - n)) behind ∙ take_at (addresses (p.at + n) (p.count - n)) (indexes_of ps) (p.count - n) (length_addresses (p.at + n) (p.count - n)) in
    record { some = omega (arith, here); is = sym cut }
rest_by false p ps n is rest =
    let past_it : p.count ≤ n = ltb-false n p.count is in
    let long = length_addresses p.at p.count in
    next_past (addresses p.at p.count) (indexes_of ps) n (rest_from ps (n - p.count)) (omega (arith, past_it, long)) (rw long rest)

rest_next : (ps : List Piece) (n : ℕ) → IsNext (indexes_of ps) n (rest_from ps n)
rest_next [] n = omega arith
rest_next (p ∷ ps) n = rest_by (nat_lt n p.count) p ps n refl (rest_next ps (n - p.count))

empty_by : (below : Bool) (ps : List Piece) (n : ℕ) → nat_lt n 0 ≡ below → (if below then Some (record { at = 0 + n; count = 0 - n }) else rest_from ps (n - 0)) ≡ rest_from ps (n - 0)
empty_by true ps n is = absurd (omega (arith, ltb-true n 0 is))
empty_by false ps n is = refl

empty_first : (ps : List Piece) (n : ℕ) → rest_from (record { at = 0; count = 0 } ∷ ps) n ≡ rest_from ps (n - 0)
empty_first ps n = empty_by (nat_lt n 0) ps n refl

two_rest : (ps : List Piece) (n : ℕ) → rest_from (in_two ps) n ≡ rest_from ps n
two_rest [] n = empty_first (record { at = 0; count = 0 } ∷ []) n ∙ empty_first [] (n - 0)
two_rest (p ∷ []) n = rw (empty_first [] (n - p.count)) refl
two_rest (p ∷ q ∷ ps) n = refl

-- The bytes in the chain, and what comes last.
span_shift : (base skip count from : ℕ) (at : List ℕ) → from ≤ count → map (index_of base) (take (count - from) (drop (skip + from) at)) ≡ drop from (map (index_of base) (take count (drop skip at)))
span_shift base skip count from at few =
    let is : count ≡ from + (count - from) = omega (arith, few) in
    let cut : drop from (take count (drop skip at)) ≡ take (count - from) (drop (skip + from) at) =
    subst (λ (n : ℕ). drop from (take n (drop skip at)) ≡ take (count - from) (drop (skip + from) at)) (sym is) (drop-take from (count - from) (drop skip at) ∙ ap (take (count - from)) (drop-drop from skip at)) in
    ap (map (index_of base)) (sym cut) ∙ sym (drop-map (index_of base) from (take count (drop skip at)))

span_long : (skip count : ℕ) (at : List ℕ) → skip + count ≤ length at → length (take count (drop skip at)) ≡ count
span_long skip count at inside = omega (arith, inside, length-take count (drop skip at), length-drop skip at)

pub first_bytes : (w : Writing) (reply : Reply) (base skip count from : ℕ) (r : Option Piece) → base ≡ writing_base w → places_of w reply ≡ take count (drop skip (places (segments_of w))) → skip + count ≤ length (places (segments_of w)) → from < count
    → IsNext (map (index_of base) (take (count - from) (drop (skip + from) (places (segments_of w))))) 0 r → IsNext (indexes_of (writes_of w reply)) from r × IsApartAtEnd (length (places_of w reply)) (last_of w reply) from r
first_bytes w reply base skip count from r base_is are inside below h =
    let at = places (segments_of w) in
    let xs = map (index_of base) (take count (drop skip at)) in
    let is : indexes_of (writes_of w reply) ≡ xs ++ indexes_of (last_of w reply) = writes_split w reply ∙ rw (base_is, are) refl in
    let long : length (places_of w reply) ≡ count = ap (λ (ps : List ℕ). length ps) are ∙ span_long skip count at inside in
    let all : length xs ≡ count = length-map (take count (drop skip at)) (index_of base) ∙ span_long skip count at inside in
    let here : IsNext (drop from xs) 0 r = subst (λ (is : List ℕ). IsNext is 0 r) (span_shift base skip count from at (omega (arith, below))) h in (
      subst (λ (is : List ℕ). IsNext is from r) (sym is) (next_first xs (indexes_of (last_of w reply)) from r (omega (arith, below, all)) here),
      record { before = λ p same few. omega (arith, long, all, before_end xs from r p here same (omega (arith, below, all))); behind = λ more. absurd (omega (arith, more, long, below)) },
    )

pub last_bytes : (w : Writing) (reply : Reply) (skip count from : ℕ) (r : Option Piece) (last : List Piece) → places_of w reply ≡ take count (drop skip (places (segments_of w))) → skip + count ≤ length (places (segments_of w)) → count ≤ from
    → last ≡ in_two (last_of w reply) → r ≡ rest_from last (from - count) → IsNext (indexes_of (writes_of w reply)) from r × IsApartAtEnd (length (places_of w reply)) (last_of w reply) from r
last_bytes w reply skip count from r last are inside more last_is is =
    let at = places (segments_of w) in
    let long : length (places_of w reply) ≡ count = ap (λ (ps : List ℕ). length ps) are ∙ span_long skip count at inside in
    let xs = map (index_of (writing_base w)) (places_of w reply) in
    let all : length xs ≡ count = length-map (places_of w reply) (index_of (writing_base w)) ∙ long in
    let rest : r ≡ rest_from (last_of w reply) (from - count) = is ∙ ap (λ (ps : List Piece). rest_from ps (from - count)) last_is ∙ two_rest (last_of w reply) (from - count) in
    let behind : IsNext (indexes_of (last_of w reply)) (from - length xs) r = rw (all, rest) (rest_next (last_of w reply) (from - count)) in (
      subst (λ (is : List ℕ). IsNext is from r) (sym (writes_split w reply)) (next_past xs (indexes_of (last_of w reply)) from r (omega (arith, more, all)) behind),
      record { before = λ p same few. absurd (omega (arith, few, more, long)); behind = λ far. rest ∙ ap (λ (n : ℕ). rest_from (last_of w reply) (from - n)) (sym long) },
    )

-- A part of one segment.
pub index_addresses : (base a n : ℕ) → base ≤ a → map (index_of base) (addresses a n) ≡ addresses (index_of base a) n
index_addresses base a zero above = refl
index_addresses base a (suc n) above =
    let one : index_of base (a + 1) ≡ index_of base a + 1 = omega (arith, above) in
    ap (λ (is : List ℕ). index_of base a ∷ is) (index_addresses base (a + 1) n (omega (arith, above)) ∙ ap (λ (i : ℕ). addresses i n) one)

pub part_here : (base : ℕ) (seg : Seg) (rest : List Seg) (skip left : ℕ) (p : Piece) → base ≤ seg.addr → skip < seg.len → 0 < left → p.at ≡ seg.addr - base + skip → p.count ≤ left → p.count ≤ seg.len - skip → 0 < p.count
    → IsNext (map (index_of base) (take left (drop skip (places (seg ∷ rest))))) 0 (Some p)
part_here base seg rest skip left p above inside some at few short has =
    let behind = within seg.addr seg.len skip (places rest) (omega (arith, inside)) in
    let n = p.count in
    let long = length_addresses (seg.addr + skip) (seg.len - skip) in
    let split : addresses (seg.addr + skip) (seg.len - skip) ≡ addresses (seg.addr + skip) n ++ addresses (seg.addr + skip + n) (seg.len - skip - n) =
    (let is : seg.len - skip ≡ n + (seg.len - skip - n) = omega (arith, short) in ap (addresses (seg.addr + skip)) is ∙ addresses_add (seg.addr + skip) n (seg.len - skip - n)) in
    let spread : drop skip (places (seg ∷ rest)) ≡ addresses (seg.addr + skip) n ++ (addresses (seg.addr + skip + n) (seg.len - skip - n) ++ places rest) =
    behind ∙ ap (λ (xs : List ℕ). xs ++ places rest) split ∙ append_assoc (addresses (seg.addr + skip) n) (addresses (seg.addr + skip + n) (seg.len - skip - n)) (places rest) in
    let cut : take n (take left (drop skip (places (seg ∷ rest)))) ≡ addresses (seg.addr + skip) n =
    take-take n left (drop skip (places (seg ∷ rest))) few ∙ ap (take n) spread ∙ take_at (addresses (seg.addr + skip) n) (addresses (seg.addr + skip + n) (seg.len - skip - n) ++ places rest) n (length_addresses (seg.addr + skip) n) in
    let place : index_of base (seg.addr + skip) ≡ p.at = omega (arith, above, at) in
    let are : addresses p.at n ≡ map (index_of base) (addresses (seg.addr + skip) n) = ap (λ (i : ℕ). addresses i n) (sym place) ∙ sym (index_addresses base (seg.addr + skip) n (omega (arith, above))) in
    record { some = has; is = are ∙ ap (map (index_of base)) (sym cut) ∙ sym (take-map (index_of base) n (take left (drop skip (places (seg ∷ rest))))) }

pub part_past : (seg : Seg) (rest : List Seg) (skip : ℕ) → seg.len ≤ skip → drop skip (places (seg ∷ rest)) ≡ drop (skip - seg.len) (places rest)
part_past seg rest skip more = past seg.addr seg.len skip (places rest) more

no_places : (skip left : ℕ) → take left (drop skip (places [])) ≡ []
no_places zero zero = refl
no_places zero (suc left) = refl
no_places (suc skip) zero = refl
no_places (suc skip) (suc left) = refl

pub part_none : (base : ℕ) (segs : List Seg) (i skip left : ℕ) → length segs ≤ i → IsNext (map (index_of base) (take left (drop skip (places (drop i segs))))) 0 None
part_none base segs i skip left past_all =
    let none = drop_all i segs past_all in
    let empty = no_places skip left in
    rw (none, empty) (omega arith)

-- The bytes of segments that are there.
pub span_cut : (total skip count : ℕ) (at : List ℕ) → length at ≡ total → take (min count (total - skip)) (drop skip at) ≡ take count (drop skip at)
span_cut total skip count at long =
    let rest : total - skip ≡ length (drop skip at) = omega (arith, long, length-drop skip at) in
    rw rest (take_min count (drop skip at))

nothing_of : (n : ℕ) → ◌≡◌ {A = List ℕ} [] (take n [])
nothing_of zero = refl
nothing_of (suc n) = refl

pub span_none : (total skip count : ℕ) (at : List ℕ) → length at ≡ total → total ≤ skip → take 0 (drop 0 at) ≡ take count (drop skip at)
span_none total skip count at long more =
    let none = drop_all skip at (omega (arith, long, more)) in
    rw none (nothing_of count)

note_by : (event : Bool) (found : Option Piece) (piece there : Piece) → found ≡ (if event then Some there else None) → found ≡ Some piece → there.at + there.count < 18446744073709551616 → piece.at + piece.count < 18446744073709551616
note_by true found piece there is some near =
    let same : there ≡ piece = some_is there piece (sym is ∙ some) in
    subst (λ (p : Piece). p.at + p.count < 18446744073709551616) same near
note_by false found piece there is some near =
    let bad : None ≡ Some piece = sym is ∙ some in
    cc

pub split_note : (len : ℕ) (q : RingState) (found : Option Piece) (piece : Piece) → len < 9223372036854775808 → HasAreas len q → q.is_packed ≡ false
    → found ≡ (if q.has_event_index then Some (record { at = q.device + 4 + 8 * q.size; count = 2 }) else None) → found ≡ Some piece → piece.at + piece.count < 18446744073709551616
split_note len q found piece few areas layout is some =
    let inside : q.device + device_bytes false q.size ≤ len = rw layout at areas.device.inside in
    note_by q.has_event_index found piece (record { at = q.device + 4 + 8 * q.size; count = 2 }) is some (omega (arith, few, inside))

pub packed_note : (len : ℕ) (q : RingState) (found : Option Piece) (piece : Piece) → len < 9223372036854775808 → HasAreas len q → q.is_packed ≡ true
    → found ≡ (if q.has_event_index then Some (record { at = q.device; count = 4 }) else None) → found ≡ Some piece → piece.at + piece.count < 18446744073709551616
packed_note len q found piece few areas layout is some =
    let inside : q.device + device_bytes true q.size ≤ len = rw layout at areas.device.inside in
    note_by q.has_event_index found piece (record { at = q.device; count = 4 }) is some (omega (arith, few, inside))

-- What a device writes by, by what its queue gives.
pub looked_storing : (d : DeviceState) (ram : List ℕ) (pick : ℕ) (q : RingState) (answer : Next) (w : Writing) → looked_at d pick ≡ Some q → Answers ram q answer → w ≡ writing_on q answer → IsStoring d ram pick w
looked_storing d ram pick q answer w looked answers is = record {
  answer = answer;
  answers = subst (λ (ring : Option RingState). MayAnswer ring ram answer) (sym looked) answers;
  is = is ∙ ap (λ (ring : Option RingState). writing_by d pick ring answer) (sym looked);
}

pub unlooked_storing : (d : DeviceState) (ram : List ℕ) (pick : ℕ) (w : Writing) → looked_at d pick ≡ None → w ≡ advancing_at d.kind (pick - 1) (advanced_at d pick) → IsStoring d ram pick w
unlooked_storing d ram pick w none is = record {
  answer = next.Empty;
  answers = subst (λ (ring : Option RingState). MayAnswer ring ram next.Empty) (sym none) tt;
  is = is ∙ ap (λ (ring : Option RingState). writing_by d pick ring next.Empty) (sym none);
}

-- A device of a machine.
pub stores_there : (m : Memory) (ds : List DeviceSeen) (dev pick : ℕ) (d : DeviceSeen) (w : Writing) → IsAt ds dev d → IsStoring d.state m.bytes pick w → StepStores (state_of (record { memory = m; devices = ds })) dev pick w
stores_there m ds dev pick d w at stores = subst (λ (f : Option DeviceState). StoresBy f m.bytes pick w) (sym (found ds dev d at)) stores

pub none_stores : (m : Memory) (ds : List DeviceSeen) (dev pick : ℕ) (w : Writing) → length ds ≤ dev → w ≡ nothing → StepStores (state_of (record { memory = m; devices = ds })) dev pick w
none_stores m ds dev pick w h is = subst (λ (f : Option DeviceState). StoresBy f m.bytes pick w) (sym (gone ds dev h)) is

pub if_stores : {E : Type 0} (P Q : Writing → Type 0) (result : Result Writing E) → ((x : Writing) → P x → Q x) → IfOk result P → IfOk result Q
if_stores P Q (Ok w) f h = f w h
if_stores P Q (Err error) f h = h

-- The segments of a request lie in RAM.
requests_inside : {base : ℕ} (len : ℕ) (d : DeviceState) (pick : ℕ) (q : RingState) (kind : kinds.Kind) → d.kind ≡ kind → IsSoundDevice base len d → advanced_at d pick ≡ Some q → All (λ (r : Request). AreSegmentsInside q.base len r.writable) (requests_of kind)
requests_inside len d pick q (Block block) is sound at = λ k r below. (advanced_sound len d block pick q sound at is k r below).writable
requests_inside len d pick q (Outside block) is sound at = λ k r below. (outside_sound len d block pick q sound at is k r below).writable
requests_inside len d pick q (Network mac inbox) is sound at = λ k r below. absurd (omega (arith, below))
requests_inside len d pick q (Console size held) is sound at = λ k r below. absurd (omega (arith, below))
requests_inside len d pick q (Entropy pool) is sound at = λ k r below. absurd (omega (arith, below))

inside_of : (base len : ℕ) (there : Option Request) (copy : Request) → ((r : Request) → there ≡ Some r → AreSegmentsInside base len r.writable) → Some copy ≡ unread_in there → AreSegmentsInside base len copy.writable
inside_of base len None copy inside is = cc
inside_of base len (Some r) copy inside is =
    let same : copy ≡ unread r = (cc) in
    rw same (inside r refl)

pub request_inside : {base : ℕ} (len : ℕ) (d : DeviceState) (pick : ℕ) (q : RingState) (k : ℕ) (copy : Request) → IsSoundDevice base len d → advanced_at d pick ≡ Some q → Some copy ≡ unread_in (slice_get (requests_of d.kind) k) → AreSegmentsInside q.base len copy.writable
request_inside len d pick q k copy sound at is =
    let all = requests_inside len d pick q d.kind refl sound at in
    inside_of q.base len (slice_get (requests_of d.kind) k) copy (λ r there. rw (get_or_from_slice_get (requests_of d.kind) k r r there) at (all k r (slice_get_within (requests_of d.kind) k r there))) is

-- What a step writes is what is known of it.
none_written : (q : RingState) (c : Chain) (reply : Reply) → has_published reply ≡ false → chain_writes q c reply ≡ []
none_written q c (replies.Completed len) is = cc
none_written q c (replies.Sent bytes) is = cc
none_written q c replies.Idle is = refl
none_written q c replies.Taken is = refl
none_written q c replies.Moved is = refl
none_written q c replies.BadSector is = refl
none_written q c replies.DiskFailed is = refl
none_written q c replies.Dropped is = refl
none_written q c replies.NeedsReset is = refl
none_written q c replies.NoMemory is = refl
none_written q c (replies.Refused why) is = refl
none_written q c (replies.Value value) is = refl
none_written q c replies.Done is = refl
none_written q c (replies.OutByte byte) is = refl
none_written q c (replies.Bytes bytes) is = refl
none_written q c (replies.Accepted count) is = refl

by_fit : (fit : Bool) (d : DeviceState) (ram : List ℕ) (content : List Sector) (pick : ℕ) (q : RingState) (c : Chain)
    → seen_writes q (if fit then next.Chain c else next.Malformed) (step_at d ram content pick (Some q) fine (if fit then next.Chain c else next.Malformed)).reply ≡ writes_of (a_chain q c) (step_at d ram content pick (Some q) fine (if fit then next.Chain c else next.Malformed)).reply
by_fit true d ram content pick q c = refl
by_fit false d ram content pick q c = sym (none_written q c (step_at d ram content pick (Some q) fine next.Malformed).reply (malformed_quiet d.registers.common.features d.kind pick ram q))

by_answer : (want : Wanted) (d : DeviceState) (ram : List ℕ) (content : List Sector) (pick : ℕ) (q : RingState) (answer : Next)
    → seen_writes q (seen_as want answer) (step_at d ram content pick (Some q) fine (seen_as want answer)).reply ≡ writes_of (writing_on q answer) (step_at d ram content pick (Some q) fine (seen_as want answer)).reply
by_answer want d ram content pick q next.Empty = refl
by_answer want d ram content pick q next.Malformed = refl
by_answer want d ram content pick q (next.Chain c) = by_fit (fits want c) d ram content pick q c

no_writes : (q : RingState) (seen : Next) → seen_writes q seen replies.NoMemory ≡ []
no_writes q next.Empty = refl
no_writes q next.Malformed = refl
no_writes q (next.Chain c) = refl

no_writes_of : (q : RingState) (answer : Next) → writes_of (writing_on q answer) replies.NoMemory ≡ []
no_writes_of q next.Empty = refl
no_writes_of q next.Malformed = refl
no_writes_of q (next.Chain c) = refl

refused_same : (q : RingState) (seen answer : Next) → seen_writes q seen replies.NoMemory ≡ writes_of (writing_on q answer) replies.NoMemory
refused_same q seen answer = no_writes q seen ∙ sym (no_writes_of q answer)

unit_same : (kind : Kind) (base : ℕ) (r : Request) → unit_writes kind base r ≡ unit_writes kind base (unread r)
unit_same work.In base r = refl
unit_same work.GetId base r = refl
unit_same work.Refused base r = refl
unit_same work.Out base r = refl
unit_same work.Flush base r = refl
unit_same work.Zero base r = refl

request_same : (q : RingState) (r : Request) (reply : Reply) → request_writes q (Some r) reply ≡ request_writes q (Some (unread r)) reply
request_same q r replies.Moved = unit_same r.kind q.base r
request_same q r (replies.Completed len) = refl
request_same q r replies.Idle = refl
request_same q r (replies.Sent bytes) = refl
request_same q r replies.Taken = refl
request_same q r replies.BadSector = refl
request_same q r replies.DiskFailed = refl
request_same q r replies.Dropped = refl
request_same q r replies.NeedsReset = refl
request_same q r replies.NoMemory = refl
request_same q r (replies.Refused why) = refl
request_same q r (replies.Value value) = refl
request_same q r replies.Done = refl
request_same q r (replies.OutByte byte) = refl
request_same q r (replies.Bytes bytes) = refl
request_same q r (replies.Accepted count) = refl

on_same : (q : RingState) (there : Option Request) (reply : Reply) → request_writes q there reply ≡ writes_of (request_on q there) reply
on_same q None reply = refl
on_same q (Some r) reply = request_same q r reply

advance_same : (kind : kinds.Kind) (k : ℕ) (ring : Option RingState) (reply : Reply) → advance_writes kind k ring reply ≡ writes_of (advancing_at kind k ring) reply
advance_same kind k None reply = refl
advance_same kind k (Some q) reply = on_same q (slice_get (requests_of kind) k) reply

ring_same : (d : DeviceState) (ram : List ℕ) (content : List Sector) (pick : ℕ) (ring : Option RingState) (o : Outcome) (seen answer : Next) → MayLook (wanted_of d.kind pick) ring ram o seen → MayAnswer ring ram answer
    → writes_at d pick ring seen (step_at d ram content pick ring o seen).reply ≡ writes_of (writing_by d pick ring answer) (step_at d ram content pick ring o seen).reply
ring_same d ram content pick None o seen answer may answers = advance_same d.kind (pick - 1) (advanced_at d pick) (step_at d ram content pick None o seen).reply
ring_same d ram content pick (Some q) fine seen answer may answers =
    let want = wanted_of d.kind pick in
    let same : may.answer ≡ answer = answer_same ram q may.answer answer may.answers answers in
    let is : seen_as want answer ≡ seen = sym (may.is ∙ ap (seen_as want) same) in
    subst (λ (n : Next). seen_writes q n (step_at d ram content pick (Some q) fine n).reply ≡ writes_of (writing_on q answer) (step_at d ram content pick (Some q) fine n).reply) is (by_answer want d ram content pick q answer)
ring_same d ram content pick (Some q) failing seen answer may answers = absurd may
ring_same d ram content pick (Some q) no_memory seen answer may answers = refused_same q seen answer

device_same : (d : DeviceState) (ram : List ℕ) (content : List Sector) (pick : ℕ) (o : Outcome) (seen : Next) (w : Writing) → MayLook (wanted_of d.kind pick) (looked_at d pick) ram o seen → IsStoring d ram pick w
    → device_writes d pick seen (device_step d ram content pick o seen).reply ≡ writes_of w (device_step d ram content pick o seen).reply
unfolding device_step
device_same d ram content pick o seen w may h =
    ring_same d ram content pick (looked_at d pick) o seen h.answer may h.answers ∙ ap (λ (x : Writing). writes_of x (step_at d ram content pick (looked_at d pick) o seen).reply) (sym h.is)

found_same : (number : ℕ) (there : Option DeviceState) (ram : List ℕ) (content : List Sector) (pick : ℕ) (o : Outcome) (seen : Next) (w : Writing) → ((d : DeviceState) → there ≡ Some d → HasId d.kind) → AreWhole content → MaySeeAt there ram pick o seen → StoresBy there ram pick w
    → indexes_in (step_device number there ram content pick o seen).effect.writes ≡ indexes_of (writes_of w (step_device number there ram content pick o seen).reply)
found_same number None ram content pick o seen w has whole may stores = rw stores refl
found_same number (Some d) ram content pick o seen w has whole may stores =
    device_indexes d ram content pick o seen (has d refl) whole may ∙ ap indexes_of (device_same d ram content pick o seen w may stores)

-- The id of a device has its size, and the sectors that its disk gave are whole.
id_of : (kind : kinds.Kind) → IsSoundShape (made_as kind) → HasId kind
id_of (Block block) h = h.id_size
id_of (Outside block) h = h.id_size
id_of (Network mac inbox) h = tt
id_of (Console size held) h = tt
id_of (Entropy pool) h = tt

id_there : (base len : ℕ) (news olds : List DeviceState) (dev : ℕ) (d : DeviceState) → map (λ (x : DeviceState). made_as x.kind) news ≡ map (λ (x : DeviceState). made_as x.kind) olds → All (IsSoundDevice base len) news → slice_get olds dev ≡ Some d → HasId d.kind
id_there base len news [] dev d same all there = cc
id_there base len [] (o ∷ olds) dev d same all there = cc
id_there base len (n ∷ news) (o ∷ olds) zero d same all there =
    let is : o ≡ d = (cc) in
    let shapes : made_as n.kind ≡ made_as o.kind = (cc) in
    let sound = (All-head (IsSoundDevice base len) n news all).shape in
    let here : IsSoundShape (made_as o.kind) = rw shapes at sound in
    subst (λ (x : DeviceState). HasId x.kind) is (id_of o.kind here)
id_there base len (n ∷ news) (o ∷ olds) (suc dev) d same all there =
    let rest : map (λ (x : DeviceState). made_as x.kind) news ≡ map (λ (x : DeviceState). made_as x.kind) olds = (cc) in
    id_there base len news olds dev d rest (All-tail (IsSoundDevice base len) n news all) there

given_at : (disks : List (List Sector)) (dev : ℕ) (given : List Sector) → AreWhole given → AreWhole (disk_or_none (slice_get (slice_set disks dev given) dev))
given_at [] dev given whole = none_whole
given_at (s ∷ disks) zero given whole = whole
given_at (s ∷ disks) (suc dev) given whole = given_at disks dev given whole

pub storing_writes : StoringIsWrites
storing_writes p next window after dev pick reply h w stores =
    let m = state_of (back_with p window) in
    let given = as_given m (Step dev pick) h.given in
    let there = slice_get m.devices dev in
    let o = outcome_of reply in
    let a = step_device dev there m.ram (disk_of given dev) pick o h.has.seen in
    let shape = h.shape in
    let sound = h.sound in
    let has : (d : DeviceState) → there ≡ Some d → HasId d.kind = λ d is. id_there (base_of (state_of (back_with next after)).devices) (length (state_of (back_with next after)).ram) (state_of (back_with next after)).devices m.devices dev d shape.devices sound.devices is in
    let content : AreWhole (disk_of given dev) = given_at m.disks dev h.given h.is_given.whole in
    let same = found_same dev there m.ram (disk_of given dev) pick o h.has.seen w has content h.has.may_see stores in
    let writes : h.effect.writes ≡ a.effect.writes = ap (λ (f : Effect). f.writes) h.has.effect_is in
    ap indexes_in writes ∙ same ∙ ap (λ (r : Reply). indexes_of (writes_of w r)) (sym h.has.reply_is)
