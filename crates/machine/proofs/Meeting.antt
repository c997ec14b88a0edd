-- Whether pieces share a byte.
use Rattle.std.specs.Prelude.{◌≡◌, ℕ, zero, suc, ◌+◌, ◌-◌, ◌<◌, ◌≤◌, ◌||◌, nat_lt, List, [], ◌∷◌, ◌++◌, map, Bool, true, false, refl}
use Rattle.std.proofs.Common.{ap, sym, subst, ◌∙◌, arith, eqb}
use Rattle.std.proofs.lemmas.Bool.{eq-eqb, ne_eqb}
use Rattle.std.proofs.lemmas.List.{map-append}
use borrow.Author.Tests.{ltb-true, ltb-false}
use Rattle.guestmem.specs.Address.{index_of}
use Rattle.guestmem.specs.Lent.{is_named}
use Rattle.chains.specs.Footprint.{place_pieces}
use Rattle.chains.specs.Places.{addresses, places}
use Rattle.chains.specs.declared.lacking.Piece.{Piece}
use Rattle.chains.specs.declared.segs.Seg.{Seg}
use Rattle.machine.specs.Opening.{IsClear, IsShared, TellsShared, reach_of}
use Rattle.machine.specs.Stored.{indexes_of}
use Rattle.machine.specs.Writing.{Writing, in_two, last_pieces, segments_of, writing_base}
use Rattle.machine.proofs.Writing.{index_addresses, indexes_both, place_indexes}

-- The indexes of one piece.
pub or_true : (x y : Bool) → y ≡ true → (x || y) ≡ true
or_true true y is = refl
or_true false y is = is

in_piece : (at count j : ℕ) → j < count → is_named (addresses at count) (at + j) ≡ true
in_piece at zero j below = absurd (omega (arith, below))
in_piece at (suc count) zero below =
    let here : at + 0 ≡ at = omega arith in
    rw (here, eq-eqb at at refl) refl
in_piece at (suc count) (suc j) below =
    let there : at + suc j ≡ at + 1 + j = omega arith in
    rw there (or_true (eqb (at + 1 + j) at) (is_named (addresses (at + 1) count) (at + 1 + j)) (in_piece (at + 1) count j (omega (arith, below))))

below_piece : (at count i : ℕ) → i < at → is_named (addresses at count) i ≡ false
below_piece at zero i before = refl
below_piece at (suc count) i before =
    let other : i ≡ at → ⊥ = λ is. absurd (omega (arith, before, is)) in
    rw (ne_eqb i at other) (below_piece (at + 1) count i (omega (arith, before)))

past_piece : (at count i : ℕ) → at + count ≤ i → is_named (addresses at count) i ≡ false
past_piece at zero i more = refl
past_piece at (suc count) i more =
    let other : i ≡ at → ⊥ = λ is. absurd (omega (arith, more, is)) in
    rw (ne_eqb i at other) (past_piece (at + 1) count i (omega (arith, more)))

-- Two pieces.
pub none_met : (one other : Piece) → one.count ≡ 0 → IsClear (addresses one.at one.count) other
none_met one other none = λ k below. rw none refl

pub met_after : (b : Bool) (one other : Piece) → 0 < other.count → one.at ≤ other.at → nat_lt (other.at - one.at) one.count ≡ b → TellsShared (addresses one.at one.count) other b
met_after true one other some after is =
    let inside : other.at - one.at < one.count = ltb-true (other.at - one.at) one.count is in
    let at : other.at + 0 ≡ one.at + (other.at - one.at) = omega (arith, after) in
    record { k = 0; below = some; there = rw at (in_piece one.at one.count (other.at - one.at) inside) }
met_after false one other some after is = λ k below.
    let outside : one.count ≤ other.at - one.at = ltb-false (other.at - one.at) one.count is in
    past_piece one.at one.count (other.at + k) (omega (arith, outside, after))

pub met_before : (b : Bool) (one other : Piece) → 0 < one.count → other.at < one.at → nat_lt (one.at - other.at) other.count ≡ b → TellsShared (addresses one.at one.count) other b
met_before true one other some before is =
    let inside : one.at - other.at < other.count = ltb-true (one.at - other.at) other.count is in
    let at : other.at + (one.at - other.at) ≡ one.at + 0 = omega (arith, before) in
    record { k = one.at - other.at; below = inside; there = rw at (in_piece one.at one.count 0 some) }
met_before false one other some before is = λ k below.
    let outside : other.count ≤ one.at - other.at = ltb-false (one.at - other.at) other.count is in
    below_piece one.at one.count (other.at + k) (omega (arith, outside, before, below))

-- Lists of indexes, one after another.
or_same : (x y z : Bool) → ((x || y) || z) ≡ (x || (y || z))
or_same true y z = refl
or_same false y z = refl

pub named_both : (xs ys : List ℕ) (i : ℕ) → is_named (xs ++ ys) i ≡ (is_named xs i || is_named ys i)
named_both [] ys i = refl
named_both (x ∷ xs) ys i = rw (named_both xs ys i) (sym (or_same (eqb i x) (is_named xs i) (is_named ys i)))

pub shared_left : (xs ys : List ℕ) (p : Piece) → IsShared xs p → IsShared (xs ++ ys) p
shared_left xs ys p h = record { k = h.k; below = h.below; there = named_both xs ys (p.at + h.k) ∙ rw h.there refl }

pub shared_right : (b : Bool) (xs ys : List ℕ) (p : Piece) → IsClear xs p → TellsShared ys p b → TellsShared (xs ++ ys) p b
shared_right true xs ys p clear h = record { k = h.k; below = h.below; there = named_both xs ys (p.at + h.k) ∙ or_true (is_named xs (p.at + h.k)) (is_named ys (p.at + h.k)) h.there }
shared_right false xs ys p clear h = λ k below. named_both xs ys (p.at + k) ∙ rw (clear k below, h k below) refl

pub none_shared : (p : Piece) → IsClear [] p
none_shared p = λ k below. refl

-- Segments.
pub seg_indexes : (base : ℕ) (seg : Seg) (rest : List Seg) → base ≤ seg.addr → map (index_of base) (places (seg ∷ rest)) ≡ addresses (seg.addr - base) seg.len ++ map (index_of base) (places rest)
seg_indexes base seg rest above = map-append (index_of base) (addresses seg.addr seg.len) (places rest) ∙ ap (λ (is : List ℕ). is ++ map (index_of base) (places rest)) (index_addresses base seg.addr seg.len above)

-- All into which a step may write.
two_indexes : (ps : List Piece) → indexes_of (in_two ps) ≡ indexes_of ps
two_indexes [] = refl
two_indexes (p ∷ []) = refl
two_indexes (p ∷ q ∷ ps) = refl

pub reach_indexes : (w : Writing) → indexes_of (reach_of w) ≡ map (index_of (writing_base w)) (places (segments_of w)) ++ indexes_of (last_pieces w)
reach_indexes w = indexes_both (place_pieces (writing_base w) (places (segments_of w))) (last_pieces w) ∙ ap (λ (is : List ℕ). is ++ indexes_of (last_pieces w)) (place_indexes (writing_base w) (places (segments_of w)))

pub reach_first : (w : Writing) (base : ℕ) (segs : List Seg) (p : Piece) → base ≡ writing_base w → segs ≡ segments_of w → IsShared (map (index_of base) (places segs)) p → IsShared (indexes_of (reach_of w)) p
reach_first w base segs p base_is are h =
    let here : IsShared (map (index_of (writing_base w)) (places (segments_of w))) p = rw (base_is, are) at h in
    subst (λ (is : List ℕ). IsShared is p) (sym (reach_indexes w)) (shared_left (map (index_of (writing_base w)) (places (segments_of w))) (indexes_of (last_pieces w)) p here)

pub reach_last : (b : Bool) (w : Writing) (base : ℕ) (segs : List Seg) (last : List Piece) (p : Piece) → base ≡ writing_base w → segs ≡ segments_of w → last ≡ in_two (last_pieces w) → IsClear (map (index_of base) (places segs)) p → TellsShared (indexes_of last) p b
    → TellsShared (indexes_of (reach_of w)) p b
reach_last b w base segs last p base_is are last_is clear h =
    let here : IsClear (map (index_of (writing_base w)) (places (segments_of w))) p = rw (base_is, are) at clear in
    let same : indexes_of last ≡ indexes_of (last_pieces w) = ap indexes_of last_is ∙ two_indexes (last_pieces w) in
    let rest : TellsShared (indexes_of (last_pieces w)) p b = rw same at h in
    subst (λ (is : List ℕ). TellsShared is p b) (sym (reach_indexes w)) (shared_right b (map (index_of (writing_base w)) (places (segments_of w))) (indexes_of (last_pieces w)) p here rest)
