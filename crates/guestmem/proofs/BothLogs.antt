-- Two logs in the place of one.
use Rattle.std.proofs.Common.{◌≡◌, List, [], ◌∷◌, refl}
use Rattle.guestmem.specs.Both.{both_of}
use Rattle.guestmem.specs.Item.{Item, after_all}
use Rattle.guestmem.specs.declared.both.Both.{Both}

-- Each takes in all items, as it would alone.
pub both_take : {A B : Type 0} (first : A → Item → A) (second : B → Item → B) (x : A) (y : B) (items : List Item)
    → after_all {L = Both A B} (λ l i. both_of (first l.first i) (second l.second i)) (both_of x y) items ≡ both_of (after_all first x items) (after_all second y items)
both_take first second x y [] = refl
both_take first second x y (item ∷ items) = both_take first second (first x item) (second y item) items
