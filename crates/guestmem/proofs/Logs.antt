-- What a log holds after lists of items.
use Rattle.std.specs.Prelude.{◌≡◌, ℕ, List, [], ◌∷◌, refl}
use Rattle.std.proofs.Common.{ap, sym, ◌∙◌, inl, inr}
use Rattle.guestmem.specs.Among.{Among}
use Rattle.guestmem.specs.Item.{Item, after_all, MayPages}

-- If recording one item keeps what may be passed to the log, then so does recording a list: every page may still be passed.
pub may_after_all : {L : Type 0} (may : L → Item → Type 0) (after : L → Item → L) → ((log : L) (i j : Item) → may log i → may (after log j) i) → (log : L) (len : ℕ) (is : List Item) → MayPages may log len → MayPages may (after_all after log is) len
may_after_all may after stays log len [] h = h
may_after_all may after stays log len (i ∷ is) h = may_after_all may after stays (after log i) len is (λ n k. stays log _ i (h n k))

-- Each item of the first list is one of the second.
abbrev pub EachAmong : List Item → List Item → Type 0
EachAmong is js = (i : Item) → Among is i → Among js i

module _ {L : Type 0} (after : L → Item → L) (any_order : (log : L) (i j : Item) → after (after log i) j ≡ after (after log j) i) (once : (log : L) (i : Item) → after (after log i) i ≡ after log i) where
  -- an item may be recorded last instead of first
  after_last : (log : L) (i : Item) (is : List Item) → after_all after (after log i) is ≡ after (after_all after log is) i
  after_last log i [] = refl
  after_last log i (j ∷ is) = ap (λ (l : L). after_all after l is) (any_order log i j) ∙ after_last (after log j) i is

  -- an item that is among the others adds nothing
  after_again : (log : L) (i : Item) (is : List Item) → Among is i → after_all after (after log i) is ≡ after_all after log is
  after_again log i [] h = absurd h
  after_again log i (j ∷ is) (inl e) = ap (λ (k : Item). after_all after (after (after log k) j) is) e ∙ ap (λ (l : L). after_all after l is) (once log j)
  after_again log i (j ∷ is) (inr h) = ap (λ (l : L). after_all after l is) (any_order log i j) ∙ after_again (after log j) i is h

  -- items that are among the others add nothing
  absorbed : (log : L) (is js : List Item) → EachAmong is js → after_all after (after_all after log js) is ≡ after_all after log js
  absorbed log [] js h = refl
  absorbed log (i ∷ is) js h =
      ap (λ (l : L). after_all after l is) (sym (after_last log i js) ∙ after_again log i js (h i (inl refl)))
      ∙ absorbed log is js (λ k a. h k (inr a))

  swapped : (log : L) (is js : List Item) → after_all after (after_all after log is) js ≡ after_all after (after_all after log js) is
  swapped log [] js = refl
  swapped log (i ∷ is) js = swapped (after log i) is js ∙ ap (λ (l : L). after_all after l is) (after_last log i js)

  -- If neither the order nor the repetition of items matters to a log, then lists of the same items lead to the same log.
  pub same_items : (log : L) (is js : List Item) → EachAmong is js → EachAmong js is → after_all after log is ≡ after_all after log js
  same_items log is js h k = sym (absorbed log js is k) ∙ swapped log is js ∙ absorbed log is js h
