-- A word of the driver that a host has read asks as it does where it lies.
use Rattle.std.specs.Prelude.{◌≡◌, ◌≢◌, ℕ, ◌+◌, ◌*◌, ◌%◌, ◌<◌, ◌==◌, ◌&&◌, List, [], ◌∷◌, drop, true, false, slice_index, take, refl, if◌then◌else◌}
use Rattle.std.proofs.Common.{sym, ◌∙◌, arith, get_or}
use Rattle.std.proofs.lemmas.Bool.{ne_eqb}
use Rattle.std.proofs.lemmas.List.{get_or-drop}
use Rattle.guestmem.specs.Number.{number_at}
use Rattle.mmio.specs.Bits.{has}
use Rattle.chains.specs.Footprint.{event_piece, quiet_word}
use Rattle.chains.specs.Publish.{is_among, is_interrupt_due, is_packed_due, positions_from}
use Rattle.chains.specs.State.{RingState}

-- The word lies in RAM.
abbrev pub IsWordOf : List ℕ → RingState → List ℕ → Type 0
IsWordOf ram q word = (k : ℕ) → k < (event_piece q).count → slice_index ram ((event_piece q).at + k) ≡ slice_index word k

number_there : (ram word : List ℕ) (at from : ℕ) → ((k : ℕ) → k < 2 → get_or ram (at + k) 0 ≡ get_or word (from + k) 0) → number_at ram at 2 ≡ get_or word from 0 + 256 * get_or word (from + 1) 0
unfolding number_at
number_there ram word at from same =
    let start : from + 0 ≡ from = omega arith in
    let low : get_or (drop at ram) 0 0 ≡ get_or word from 0 = rw start at (get_or-drop at ram 0 0 ∙ same 0 (omega arith)) in
    let high : get_or (drop at ram) 1 0 ≡ get_or word (from + 1) 0 = get_or-drop at ram 1 0 ∙ same 1 (omega arith) in
    omega (arith, low, high)

module _ (ram word : List ℕ) (q : RingState) (slots event flags : ℕ) (layout : q.is_packed ≡ true) (first : event ≡ slice_index word 0 + 256 * slice_index word 1) (second : flags ≡ slice_index word 2 + 256 * slice_index word 3) (h : IsWordOf ram q word) where
  here : (k : ℕ) → k < 4 → get_or ram (q.driver + k) 0 ≡ get_or word k 0
  here = rw layout at h

  event_there : number_at ram q.driver 2 ≡ event
  event_there = number_there ram word q.driver 0 (λ k below. let z : 0 + k ≡ k = omega arith in rw z (here k (omega (arith, below)))) ∙ sym first

  flags_there : number_at ram (q.driver + 2) 2 ≡ flags
  flags_there =
      number_there ram word (q.driver + 2) 2 (λ k below.
      let at : q.driver + 2 + k ≡ q.driver + (2 + k) = omega arith in
      rw at (here (2 + k) (omega (arith, below)))) ∙ sym second

  due_is : is_interrupt_due q slots ram ≡ (if flags % 4 == 1 then false else if q.has_event_index && flags % 4 == 2 then is_among (event % 32768) (has event 32768) (positions_from q.size q.used slots) else true)
  unfolding is_packed_due
  due_is = rw (layout, event_there, flags_there) refl

  pub never_asked : flags % 4 ≡ 1 → false ≡ is_interrupt_due q slots ram
  never_asked is = sym (due_is ∙ (rw is refl))

  pub always_asked : flags % 4 ≢ 1 → q.has_event_index ≡ false → true ≡ is_interrupt_due q slots ram
  always_asked some off = sym (due_is ∙ (rw (ne_eqb (flags % 4) 1 some, off) refl))

  pub asked_plainly : flags % 4 ≢ 1 → flags % 4 ≢ 2 → q.has_event_index ≡ true → true ≡ is_interrupt_due q slots ram
  asked_plainly some plain on = sym (due_is ∙ (rw (ne_eqb (flags % 4) 1 some, ne_eqb (flags % 4) 2 plain, on) refl))

  pub asked_here : flags % 4 ≡ 2 → q.has_event_index ≡ true → is_among (event % 32768) (has event 32768) (positions_from q.size q.used slots) ≡ is_interrupt_due q slots ram
  asked_here is on = sym (due_is ∙ (rw (is, on) refl))

pub quiet_packed : (q : RingState) → q.is_packed ≡ true → take (event_piece q).count (0 ∷ 0 ∷ 1 ∷ 0 ∷ []) ≡ quiet_word q
unfolding quiet_word
quiet_packed q layout = rw layout refl
