-- The word that asks for no interrupt asks for none.
use Rattle.std.specs.Prelude.{◌≡◌, ℕ, zero, suc, ◌+◌, ◌*◌, ◌/◌, ◌%◌, ◌<◌, List, [], ◌∷◌, drop, Bool, true, false, refl}
use Rattle.std.proofs.Common.{sym, ◌∙◌, arith, get_or}
use Rattle.std.proofs.lemmas.Bool.{ne_eqb}
use Rattle.std.proofs.lemmas.List.{get_or-drop}
use Rattle.byteorder.specs.Endian.{little_from}
use Rattle.guestmem.specs.Number.{number_at}
use Rattle.chains.specs.State.{RingState}
use Rattle.chains.specs.Publish.{is_interrupt_due, is_packed_due, is_split_due}
use Rattle.chains.specs.Footprint.{HoldsAt, event_piece, quiet_word}

little_moved : (a b : List ℕ) (at from i n : ℕ) → ((k : ℕ) → k < i + n → get_or a (at + k) 0 ≡ get_or b (from + k) 0) → little_from i n (drop at a) ≡ little_from i n (drop from b)
little_moved a b at from i zero same = refl
little_moved a b at from i (suc n) same =
    let first : get_or (drop at a) i 0 ≡ get_or (drop from b) i 0 = get_or-drop at a i 0 ∙ same i (omega arith) ∙ sym (get_or-drop from b i 0) in
    let rest = little_moved a b at from (suc i) n (λ k below. same k (omega (arith, below))) in
    rw (first, rest) refl

number_moved : (a b : List ℕ) (at from n : ℕ) → ((k : ℕ) → k < n → get_or a (at + k) 0 ≡ get_or b (from + k) 0) → number_at a at n ≡ number_at b from n
unfolding number_at
number_moved a b at from n same = little_moved a b at from 0 n (λ k below. same k (omega (arith, below)))

quiet_packed : (ram : List ℕ) (q : RingState) (slots : ℕ) → HoldsAt ram q.driver (0 ∷ 0 ∷ 1 ∷ 0 ∷ []) → is_packed_due q slots ram ≡ false
unfolding is_packed_due number_at
quiet_packed ram q slots h =
    let word : List ℕ = 0 ∷ 0 ∷ 1 ∷ 0 ∷ [] in
    let shifted : (k : ℕ) → k < 2 → get_or ram (q.driver + 2 + k) 0 ≡ get_or word (2 + k) 0 = λ k below.
    let at : q.driver + (2 + k) ≡ q.driver + 2 + k = omega arith in
    rw at at (h (2 + k) (omega (arith, below))) in
    let flags : number_at ram (q.driver + 2) 2 ≡ 1 = number_moved ram word (q.driver + 2) 2 2 shifted in
    rw flags refl

quiet_split : (ram : List ℕ) (q : RingState) → q.has_event_index ≡ false → HoldsAt ram q.driver (1 ∷ 0 ∷ []) → is_split_due q ram ≡ false
unfolding is_split_due number_at
quiet_split ram q is h =
    let word : List ℕ = 1 ∷ 0 ∷ [] in
    let flags : number_at ram q.driver 2 ≡ 1 = number_moved ram word q.driver 0 2 (λ k below. let z : 0 + k ≡ k = omega arith in rw z (h k below)) in
    rw (is, flags) refl

quiet_event : (ram : List ℕ) (q : RingState) → q.has_event_index ≡ true → HoldsAt ram (q.driver + 4 + 2 * q.size) ((q.used.place + 1) % 65536 % 256 ∷ (q.used.place + 1) % 65536 / 256 ∷ []) → is_split_due q ram ≡ false
unfolding is_split_due number_at
quiet_event ram q is h =
    let next = (q.used.place + 1) % 65536 in
    let word : List ℕ = next % 256 ∷ next / 256 ∷ [] in
    let event : number_at ram (q.driver + 4 + 2 * q.size) 2 ≡ next % 256 + 256 * (next / 256 + 256 * 0) = number_moved ram word (q.driver + 4 + 2 * q.size) 0 2 (λ k below. let z : 0 + k ≡ k = omega arith in rw z (h k below)) in
    let other : number_at ram (q.driver + 4 + 2 * q.size) 2 ≡ q.used.place → ⊥ = λ same. omega (arith, event, same) in
    rw is (ne_eqb (number_at ram (q.driver + 4 + 2 * q.size) 2) q.used.place other)

quiet_by : (packed has_event : Bool) (ram : List ℕ) (q : RingState) (slots : ℕ) → q.is_packed ≡ packed → q.has_event_index ≡ has_event → HoldsAt ram (event_piece q).at (quiet_word q) → is_interrupt_due q slots ram ≡ false
unfolding quiet_word is_split_due is_packed_due
quiet_by true has_event ram q slots layout is h = rw layout (quiet_packed ram q slots (rw layout at h))
quiet_by false true ram q slots layout is h = rw layout (quiet_event ram q is (rw (layout, is) at h))
quiet_by false false ram q slots layout is h = rw layout (quiet_split ram q is (rw (layout, is) at h))

pub quiet : (ram : List ℕ) (q : RingState) (slots : ℕ) → HoldsAt ram (event_piece q).at (quiet_word q) → is_interrupt_due q slots ram ≡ false
quiet ram q slots h = quiet_by q.is_packed q.has_event_index ram q slots refl refl h
