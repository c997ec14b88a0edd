-- The pages that were written, as a log.
use Rattle.std.specs.Prelude.{◌≡◌, ◌↔◌, ◌⊎◌, ℕ, zero, suc, ◌<◌, ◌≤◌, List, [], ◌∷◌, length, take, drop, slice_set, Bool, true, false, Option, Some, None, refl}
use Rattle.std.proofs.Common.{ap, set}
use Rattle.std.proofs.lemmas.List.{length-set}
use Rattle.dirtylog.specs.Members.{HasNone, IsLeast, has}
use Rattle.guestmem.specs.Among.{Among}
use Rattle.guestmem.specs.Item.{Item, after_all, page, sector}

-- An item may be named if it is a page of these, or a sector, which is not taken in.
abbrev pub may_note : List Bool → Item → Type 0
may_note pages (page n) = n < length pages
may_note pages (sector dev n) = Unit {0}

abbrev pub noted : List Bool → Item → List Bool
noted pages (page n) = slice_set pages n true
noted pages (sector dev n) = pages

pub may_stay_noted : (pages : List Bool) (i j : Item) → may_note pages i → may_note (noted pages j) i
may_stay_noted pages (page n) (page k) h = rw length-set h
may_stay_noted pages (page n) (sector dev k) h = h
may_stay_noted pages (sector dev n) j h = tt

-- Members that are taken in one after another, and one that is taken in again.
pub set_order : (s : List Bool) (i j : ℕ) → set (set s i true) j true ≡ set (set s j true) i true
set_order [] i j = refl
set_order (b ∷ s) zero zero = refl
set_order (b ∷ s) zero (suc j) = refl
set_order (b ∷ s) (suc i) zero = refl
set_order (b ∷ s) (suc i) (suc j) = ap (λ t. b ∷ t) (set_order s i j)

pub set_once : (s : List Bool) (i : ℕ) → set (set s i true) i true ≡ set s i true
set_once [] i = refl
set_once (b ∷ s) zero = refl
set_once (b ∷ s) (suc i) = ap (λ t. b ∷ t) (set_once s i)

pub notes_any_order : (pages : List Bool) (i j : Item) → noted (noted pages i) j ≡ noted (noted pages j) i
notes_any_order pages (page n) (page k) = set_order pages n k
notes_any_order pages (page n) (sector dev k) = refl
notes_any_order pages (sector dev n) (page k) = refl
notes_any_order pages (sector dev n) (sector e k) = refl

pub notes_once : (pages : List Bool) (i : Item) → noted (noted pages i) i ≡ noted pages i
notes_once pages (page n) = set_once pages n
notes_once pages (sector dev n) = refl

-- The least member was taken out; or there was none.
abbrev pub TakesLeast : List Bool → Option ℕ → List Bool → Type 0
TakesLeast pages (Some n) next = IsLeast pages 0 n × (next ≡ slice_set pages n false)
TakesLeast pages None next = HasNone pages × (next ≡ pages)

-- Each of these numbers was the least of what was left, and was taken out.
abbrev pub AreHandedOut : List Bool → List ℕ → List Bool → Type 0
AreHandedOut pages [] next = next ≡ pages
AreHandedOut pages (n ∷ ns) next = IsLeast pages 0 n × AreHandedOut (slice_set pages n false) ns next

-- The least pages were handed out, each once. Where there was room for more, these were all. The rest of the buffer stays.
pub record HandsOut (pages : List Bool) (out : List ℕ) (count : ℕ) (new_out : List ℕ) (next : List Bool) : Type 0 where
  pub within : count ≤ length out
  pub handed : AreHandedOut pages (take count new_out) next
  pub rest : drop count new_out ≡ drop count out
  pub all : count < length out → HasNone next

-- A log that was told of items has the pages that it had, and those that are among the items, and no other.
abbrev pub NotedAreThese : Type 0
NotedAreThese = (pages : List Bool) (items : List Item) → ((i : Item) → Among items i → may_note pages i) → (n : ℕ) → (has (after_all noted pages items) n ≡ true) ↔ ((has pages n ≡ true) ⊎ Among items (page n))
