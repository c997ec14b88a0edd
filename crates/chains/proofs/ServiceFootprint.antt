-- What a step does with a chain reads no byte outside of the chain's segments and of the driver's word about interrupts.
use Rattle.std.specs.Prelude.{◌≡◌, ℕ, ◌+◌, ◌*◌, ◌<◌, List, [], ◌∷◌, length, drop, Bool, true, false, refl, if◌then◌else◌}
use Rattle.std.proofs.Common.{sym, ◌∙◌, arith, get_or, set, inl, inr}
use Rattle.std.proofs.lemmas.Bool.{cases_eq, cases_lt}
use Rattle.std.proofs.lemmas.List.{get_or-set_same, get_or-set_other, get_or_past, length-set}
use Rattle.guestmem.specs.Writes.{Write, set_all}
use Rattle.chains.specs.declared.chain.Chain.{Chain}
use Rattle.chains.specs.State.{RingState}
use Rattle.chains.specs.declared.lacking.Piece.{Piece}
use Rattle.chains.specs.Places.{places}
use Rattle.chains.specs.Publish.{after_take, is_interrupt_due, is_packed_due, is_split_due}
use Rattle.chains.specs.ReceiveBuffer.{filled, give}
use Rattle.chains.specs.Transmit.{handed_back, send}
use Rattle.chains.specs.Footprint.{AgreeAt, AgreeOn, event_piece, place_pieces}
use Rattle.chains.proofs.DecoderLaws.{number_same}
use Rattle.chains.proofs.LookFootprint.{rest_local}

-- A byte that is set is the same in both, and so is each other.
pub set_same : (a b : List ℕ) (i byte j : ℕ) → length a ≡ length b → get_or a j 0 ≡ get_or b j 0 → get_or (set a i byte) j 0 ≡ get_or (set b i byte) j 0
set_same a b i byte j same h =
    elim (cases_eq j i) as (λ _. get_or (set a i byte) j 0 ≡ get_or (set b i byte) j 0) [
      | inl is ↦ elim (cases_lt i (length a)) as (λ _. get_or (set a i byte) j 0 ≡ get_or (set b i byte) j 0) [
        | inl here ↦ rw is (get_or-set_same a i byte 0 here ∙ sym (get_or-set_same b i byte 0 (omega (arith, here, same))))
        | inr past ↦ rw is (get_or_past (set a i byte) i 0 (omega (arith, past, length-set a i byte)) ∙ sym (get_or_past (set b i byte) i 0 (omega (arith, past, same, length-set b i byte))))
      ]
      | inr other ↦ get_or-set_other a i j byte 0 other ∙ h ∙ sym (get_or-set_other b i j byte 0 other)
    ]

-- Two RAMs that agree in a piece agree there after the same writes.
pub written_same : (a b : List ℕ) (ws : List Write) (p : Piece) → length a ≡ length b → AgreeAt a b p → AgreeAt (set_all a ws) (set_all b ws) p
written_same a b [] p same h = h
written_same a b (w ∷ ws) p same h =
    let longer : length (set a w.index w.byte) ≡ length (set b w.index w.byte) = length-set a w.index w.byte ∙ same ∙ sym (length-set b w.index w.byte) in
    written_same (set a w.index w.byte) (set b w.index w.byte) ws p longer (λ k below. set_same a b w.index w.byte (p.at + k) same (h k below))

split_due_by : (has_event : Bool) (a b : List ℕ) (q : RingState) → q.has_event_index ≡ has_event → AgreeAt a b (if has_event then record { at = q.driver + 4 + 2 * q.size; count = 2 } else record { at = q.driver; count = 2 }) → is_split_due q a ≡ is_split_due q b
unfolding is_split_due
split_due_by true a b q is h =
    let same = number_same a b (q.driver + 4 + 2 * q.size) 2 h in
    rw (is, same) refl
split_due_by false a b q is h =
    let same = number_same a b q.driver 2 h in
    rw (is, same) refl

packed_due_local : (a b : List ℕ) (q : RingState) (slots : ℕ) → AgreeAt a b (record { at = q.driver; count = 4 }) → is_packed_due q slots a ≡ is_packed_due q slots b
unfolding is_packed_due
packed_due_local a b q slots h =
    let event = number_same a b q.driver 2 (λ k below. h k (omega (arith, below))) in
    let shifted : (k : ℕ) → k < 2 → get_or a (q.driver + 2 + k) 0 ≡ get_or b (q.driver + 2 + k) 0 = λ k below.
    let at : q.driver + (2 + k) ≡ q.driver + 2 + k = omega arith in
    rw at at (h (2 + k) (omega (arith, below))) in
    let flags = number_same a b (q.driver + 2) 2 shifted in
    rw (event, flags) refl

due_by : (packed has_event : Bool) (a b : List ℕ) (q : RingState) (slots : ℕ) → q.is_packed ≡ packed → q.has_event_index ≡ has_event
    → AgreeAt a b (if packed then record { at = q.driver; count = 4 } else if has_event then record { at = q.driver + 4 + 2 * q.size; count = 2 } else record { at = q.driver; count = 2 })
    → (if packed then is_packed_due q slots a else is_split_due q a) ≡ (if packed then is_packed_due q slots b else is_split_due q b)
due_by true has_event a b q slots layout is h = packed_due_local a b q slots h
due_by false has_event a b q slots layout is h = split_due_by has_event a b q is h

-- Whether an interrupt is due is read in the driver's word.
pub due_local : (a b : List ℕ) (q : RingState) (slots : ℕ) → AgreeAt a b (event_piece q) → is_interrupt_due q slots a ≡ is_interrupt_due q slots b
due_local a b q slots h = due_by q.is_packed q.has_event_index a b q slots refl refl h

-- A message that is sent, and the interrupt for it.
pub send_local : {S : Type 0} (header : ℕ) (a b : List ℕ) (q : RingState) (state : S) (c : Chain) → length a ≡ length b
    → AgreeOn a b (place_pieces q.base (drop header (places c.readable))) → AgreeAt a b (event_piece (after_take q c.slots)) → send header a q state c ≡ send header b q state c
send_local header a b q state c same h event =
    let bytes = rest_local q.base a b (places c.readable) header h in
    let due = due_local (set_all a (handed_back q c)) (set_all b (handed_back q c)) (after_take q c.slots) c.slots (written_same a b (handed_back q c) (event_piece (after_take q c.slots)) same event) in
    rw (bytes, due) refl

-- Bytes that are given to a chain: what it holds is not read.
pub give_local : {S : Type 0} (a b : List ℕ) (q : RingState) (bytes : List ℕ) (left : S) (c : Chain) → length a ≡ length b → AgreeAt a b (event_piece (after_take q c.slots)) → give a q bytes left c ≡ give b q bytes left c
unfolding give
give_local a b q bytes left c same event =
    let due = due_local (set_all a (filled q c bytes)) (set_all b (filled q c bytes)) (after_take q c.slots) c.slots (written_same a b (filled q c bytes) (event_piece (after_take q c.slots)) same event) in
    rw due refl
