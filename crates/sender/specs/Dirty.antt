-- The set of dirty items as a log.
use Rattle.std.specs.Prelude.{◌≡◌, ℕ, zero, suc, [], ◌∷◌, ◌<◌, ◌^◌, List, Bool, length, slice_set, true, refl}
use Rattle.std.proofs.Common.{ap, set}
use Rattle.std.proofs.lemmas.List.{length-set}
use Rattle.guestmem.specs.Item.{Item, page, sector}
use Rattle.machine.specs.Layout.{number_in}
use Rattle.sender.specs.declared.dirty.Dirty.{Dirty}

abbrev pub HasFirst : List ℕ → Item → Type 0
HasFirst firsts (page n) = Unit {0}
HasFirst firsts (sector dev n) = dev < length firsts

-- An item may be named if it has a number in the set.
pub record may_take (d : Dirty) (i : Item) : Type 0 where
  pub first : HasFirst d.firsts.items i
  pub place : number_in d.firsts.items i < length d.set
  pub few : length d.set < 2 ^ 64

abbrev pub after_taking : Dirty → Item → Dirty
after_taking d i = record d { set = slice_set d.set (number_in d.firsts.items i) true }

pub may_stay : (d : Dirty) (i j : Item) → may_take d i → may_take (after_taking d j) i
may_stay d i j h = record { first = h.first; place = rw length-set h.place; few = rw length-set h.few }

pub set_order : (s : List Bool) (i j : ℕ) → set (set s i true) j true ≡ set (set s j true) i true
set_order [] i j = refl
set_order (b ∷ s) zero zero = refl
set_order (b ∷ s) zero (suc j) = refl
set_order (b ∷ s) (suc i) zero = refl
set_order (b ∷ s) (suc i) (suc j) = ap (λ t. b ∷ t) (set_order s i j)

pub set_once : (s : List Bool) (i : ℕ) → set (set s i true) i true ≡ set s i true
set_once [] i = refl
set_once (b ∷ s) zero = refl
set_once (b ∷ s) (suc i) = ap (λ t. b ∷ t) (set_once s i)

pub takes_any_order : (d : Dirty) (i j : Item) → after_taking (after_taking d i) j ≡ after_taking (after_taking d j) i
takes_any_order d i j = ap (λ (s : List Bool). record d { set = s }) (set_order d.set (number_in d.firsts.items i) (number_in d.firsts.items j))

pub takes_once : (d : Dirty) (i : Item) → after_taking (after_taking d i) i ≡ after_taking d i
takes_once d i = ap (λ (s : List Bool). record d { set = s }) (set_once d.set (number_in d.firsts.items i))
