-- Steps over a window, and the pieces that it holds.
use Rattle.std.proofs.Common.{◌≡◌, ℕ, zero, suc, ◌+◌, ◌<◌, ◌||◌, Bool, true, false, List, [], ◌∷◌, eqb, get_or, length, set, refl, sym, ap, subst, ◌∙◌, arith, inl, inr}
use Rattle.std.proofs.lemmas.Bool.{cases_eq, cases_lt, eqb-true, eqb-false, eq-eqb}
use Rattle.std.proofs.lemmas.List.{get_or-set_same, get_or-set_other, get_or_past, length-set, set_past}
use Rattle.chains.specs.Footprint.{AgreeOn}
use Rattle.chains.specs.Places.{addresses}
use Rattle.chains.specs.declared.lacking.Piece.{Piece}
use Rattle.guestmem.specs.Lent.{is_named}
use Rattle.guestmem.specs.Number.{IsBytes}
use Rattle.guestmem.specs.Writes.{set_all}
use Rattle.machine.specs.Beside.{IsStepOf, ended, step_publishing, window_memory}
use Rattle.machine.specs.Footprint.{asks_at}
use Rattle.machine.specs.Parked.{back_with}
use Rattle.machine.specs.Seen.{state_of}
use Rattle.machine.specs.Stored.{copied, indexes_of}
use Rattle.machine.proofs.Beside.{beside_step, open_step}
use Rattle.machine.proofs.Numbering.{either_way}
use Rattle.sender.specs.Beside.{OpenIsBeside, OpenIsLentCall, OverIsBeside, OverIsLentCall, PiecesAreSeen}
use Rattle.sender.specs.Parked.{LiveParkedSeen}
use Rattle.sender.proofs.Marking.{named_both}

pub over_is_beside : OverIsBeside
over_is_beside p next window left held dev pick reply h seen same agree reads word = λ m devices versions bytes are.
    beside_step m p next (window_memory p window) h.after held dev pick reply h.applied (subst IsBytes (sym bytes) are) devices versions (sym h.lent.versions_are) (same ∙ ap length (sym bytes)) (subst (λ (b : List ℕ). AgreeOn window.content b held) (sym bytes) agree) reads word

pub open_is_beside : OpenIsBeside
open_is_beside p next window left held dev pick reply h seen same agree reads quiet = λ m devices versions bytes are.
    let told = step_publishing (state_of (back_with p (window_memory p window))) dev pick h.applied.has.seen reply in
    subst (λ (b : List ℕ). IsStepOf m dev pick reply h.applied.effect (ended (asks_at told (set_all b h.applied.effect.writes)) dev next)) bytes
    (open_step m p next (window_memory p window) h.after held dev pick reply h.applied (subst IsBytes (sym bytes) are) devices versions (sym h.lent.versions_are) (same ∙ ap length (sym bytes)) (subst (λ (b : List ℕ). AgreeOn window.content b held) (sym bytes) agree) reads quiet)

pub over_is_lent : OverIsLentCall
over_is_lent p next window left held dev pick reply h wrote seen same agree reads word = (
  refl,
  record {
    makes = over_is_beside p.machine next.machine window left held dev pick reply h.made seen same agree reads word;
    dirty = h.dirty;
    rest = h.rest;
  },
)

pub open_is_lent : OpenIsLentCall
open_is_lent p next window left held dev pick reply h wrote seen same agree reads quiet =
    let told = step_publishing (state_of (back_with p.machine (window_memory p.machine window))) dev pick h.made.applied.has.seen reply in
    let due = asks_at told (set_all seen h.made.applied.effect.writes) in (
      refl,
      record {
        makes = open_is_beside p.machine next.machine window left held dev pick reply h.made seen same agree reads quiet;
        dirty = h.dirty;
        rest = ap (λ (x : LiveParkedSeen). record x { machine = ended due dev next.machine }) h.rest;
      },
    )

-- What lies in a RAM into which bytes were copied.
neither : (a b : Bool) → (a || b) ≡ false → (a ≡ false) × (b ≡ false)
neither true b is = cc
neither false b is = (refl, is)

set_here : (w r : List ℕ) (i : ℕ) → length w ≡ length r → get_or (set r i (get_or w i 0)) i 0 ≡ get_or w i 0
set_here w r i same = elim (cases_lt i (length r)) as (λ _. get_or (set r i (get_or w i 0)) i 0 ≡ get_or w i 0) [
  | inl there ↦ get_or-set_same r i (get_or w i 0) 0 there
  | inr past ↦
      ap (λ (x : List ℕ). get_or x i 0) (set_past r i (get_or w i 0) (omega (arith, past))) ∙ get_or_past r i 0 (omega (arith, past)) ∙ sym (get_or_past w i 0 (omega (arith, past, same)))
]

set_stays : (w r : List ℕ) (i a : ℕ) → length w ≡ length r → get_or r a 0 ≡ get_or w a 0 → get_or (set r i (get_or w i 0)) a 0 ≡ get_or w a 0
set_stays w r i a same is = elim (cases_eq a i) as (λ _. get_or (set r i (get_or w i 0)) a 0 ≡ get_or w a 0) [
  | inl here ↦ rw here (set_here w r i same)
  | inr other ↦ get_or-set_other r i a (get_or w i 0) 0 other ∙ is
]

long_still : (w r : List ℕ) (i v : ℕ) → length w ≡ length r → length w ≡ length (set r i v)
long_still w r i v same = same ∙ sym (length-set r i v)

copied_long : (w r is : List ℕ) → length (copied w r is) ≡ length r
copied_long w r [] = refl
copied_long w r (i ∷ is) = copied_long w (set r i (get_or w i 0)) is ∙ length-set r i (get_or w i 0)

copied_stays : (w r is : List ℕ) (a : ℕ) → length w ≡ length r → get_or r a 0 ≡ get_or w a 0 → get_or (copied w r is) a 0 ≡ get_or w a 0
copied_stays w r [] a same is_same = is_same
copied_stays w r (i ∷ is) a same is_same = copied_stays w (set r i (get_or w i 0)) is a (long_still w r i (get_or w i 0) same) (set_stays w r i a same is_same)

copied_far : (w r is : List ℕ) (a : ℕ) → is_named is a ≡ false → get_or (copied w r is) a 0 ≡ get_or r a 0
copied_far w r [] a far = refl
copied_far w r (i ∷ is) a far =
    let both = neither (eqb a i) (is_named is a) far in
    copied_far w (set r i (get_or w i 0)) is a both.1 ∙ get_or-set_other r i a (get_or w i 0) 0 (eqb-false a i both.0)

copied_near : (w r is : List ℕ) (a : ℕ) → length w ≡ length r → is_named is a ≡ true → get_or (copied w r is) a 0 ≡ get_or w a 0
copied_near w r [] a same near = cc
copied_near w r (i ∷ is) a same near = elim (either_way (eqb a i)) as (λ _. get_or (copied w r (i ∷ is)) a 0 ≡ get_or w a 0) [
  | inl here ↦
      let at : a ≡ i = eqb-true a i here in
      let first : get_or (set r i (get_or w i 0)) a 0 ≡ get_or w a 0 = rw at (set_here w r i same) in
      copied_stays w (set r i (get_or w i 0)) is a (long_still w r i (get_or w i 0) same) first
  | inr other ↦
      let rest : is_named is a ≡ true = rw other at near in
      copied_near w (set r i (get_or w i 0)) is a (long_still w r i (get_or w i 0) same) rest
]

-- The indexes of pieces.
or_first : (a b : Bool) → a ≡ true → (a || b) ≡ true
or_first a b is = rw is refl

or_last : (a b : Bool) → b ≡ true → (a || b) ≡ true
or_last true b is = refl
or_last false b is = is

address_named : (at count k : ℕ) → k < count → is_named (addresses at count) (at + k) ≡ true
address_named at zero k lt = absurd (omega (arith, lt))
address_named at (suc count) zero lt =
    let here : at + 0 ≡ at = omega arith in
    or_first (eqb (at + 0) at) (is_named (addresses (at + 1) count) (at + 0)) (eq-eqb (at + 0) at here)
address_named at (suc count) (suc k) lt =
    let behind : at + 1 + k ≡ at + suc k = omega arith in
    or_last (eqb (at + suc k) at) (is_named (addresses (at + 1) count) (at + suc k)) (subst (λ (i : ℕ). is_named (addresses (at + 1) count) i ≡ true) behind (address_named (at + 1) count k (omega (arith, lt))))

agree_on : (w s : List ℕ) (ps : List Piece) → ((i : ℕ) → is_named (indexes_of ps) i ≡ true → get_or w i 0 ≡ get_or s i 0) → AgreeOn w s ps
agree_on w s [] h = tt
agree_on w s (p ∷ ps) h = (
  λ k lt. h (p.at + k) (named_both (p.at + k) (addresses p.at p.count) (indexes_of ps) ∙ or_first (is_named (addresses p.at p.count) (p.at + k)) (is_named (indexes_of ps) (p.at + k)) (address_named p.at p.count k lt)),
  agree_on w s ps (λ i is. h i (named_both i (addresses p.at p.count) (indexes_of ps) ∙ or_last (is_named (addresses p.at p.count) i) (is_named (indexes_of ps) i) is)),
)

pub pieces_are_seen : PiecesAreSeen
pieces_are_seen region window held count wrote same fits are below unwritten =
    let is = indexes_of held in
    let seen = copied window region.content is in
    let size : length seen ≡ length region.content = copied_long window region.content is in
    record {
      word = record {
        place = refl;
        size = size;
        bytes = λ a. elim (either_way (is_named is a)) as (λ _. get_or seen a 0 < 256) [
          | inl near ↦ rw (copied_near window region.content is a same near) (fits a)
          | inr far ↦ rw (copied_far window region.content is a far) (are a)
        ];
        below = below;
        others = λ a other. elim (either_way (is_named is a)) as (λ _. get_or seen a 0 ≡ get_or region.content a 0) [
          | inl near ↦ copied_near window region.content is a same near ∙ unwritten a near other
          | inr far ↦ copied_far window region.content is a far
        ];
      };
      size = same ∙ sym size;
      agrees = agree_on window seen held (λ i near. sym (copied_near window region.content is i same near));
    }
