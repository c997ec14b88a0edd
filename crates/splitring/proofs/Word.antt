-- A word of the driver that a host has read asks as it does where it lies.
use Rattle.std.specs.Prelude.{◌≡◌, ℕ, ◌+◌, ◌*◌, ◌<◌, List, drop, true, false, not, slice_index, bit_and, refl}
use Rattle.std.proofs.Common.{sym, ◌∙◌, arith, get_or, nat_eq}
use Rattle.std.proofs.lemmas.List.{get_or-drop}
use Rattle.guestmem.specs.Number.{number_at}
use Rattle.chains.specs.Footprint.{event_piece}
use Rattle.chains.specs.Publish.{is_interrupt_due, is_split_due}
use Rattle.chains.specs.State.{RingState}

-- The word lies in RAM.
abbrev pub IsWordOf : List ℕ → RingState → List ℕ → Type 0
IsWordOf ram q word = (k : ℕ) → k < (event_piece q).count → slice_index ram ((event_piece q).at + k) ≡ slice_index word k

number_there : (ram word : List ℕ) (at : ℕ) → ((k : ℕ) → k < 2 → get_or ram (at + k) 0 ≡ get_or word k 0) → number_at ram at 2 ≡ get_or word 0 0 + 256 * get_or word 1 0
unfolding number_at
number_there ram word at same =
    let low : get_or (drop at ram) 0 0 ≡ get_or word 0 0 = get_or-drop at ram 0 0 ∙ same 0 (omega arith) in
    let high : get_or (drop at ram) 1 0 ≡ get_or word 1 0 = get_or-drop at ram 1 0 ∙ same 1 (omega arith) in
    omega (arith, low, high)

pub asked_event : (ram word : List ℕ) (q : RingState) (first slots : ℕ) → q.is_packed ≡ false → q.has_event_index ≡ true → first ≡ slice_index word 0 + 256 * slice_index word 1 → IsWordOf ram q word → nat_eq first q.used.place ≡ is_interrupt_due q slots ram
unfolding is_split_due
asked_event ram word q first slots layout is number h =
    let there : number_at ram (q.driver + 4 + 2 * q.size) 2 ≡ first = number_there ram word (q.driver + 4 + 2 * q.size) (rw (layout, is) at h) ∙ sym number in
    rw (layout, is, there) refl

pub asked_flags : (ram word : List ℕ) (q : RingState) (first slots : ℕ) → q.is_packed ≡ false → q.has_event_index ≡ false → first ≡ slice_index word 0 + 256 * slice_index word 1 → IsWordOf ram q word → not (nat_eq (bit_and first 1) 1) ≡ is_interrupt_due q slots ram
unfolding is_split_due
asked_flags ram word q first slots layout is number h =
    let there : number_at ram q.driver 2 ≡ first = number_there ram word q.driver (rw (layout, is) at h) ∙ sym number in
    rw (layout, is, there) refl
