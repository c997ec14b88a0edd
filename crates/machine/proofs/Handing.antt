-- Pages that are handed out one after another, and items that a log of pages is told of.
use Rattle.std.proofs.Common.{◌≡◌, ◌<◌, ℕ, zero, suc, ◌+◌, true, false, List, [], ◌∷◌, ◌++◌, Bool, inl, inr, ◌⊎◌, length, take, drop, set, get_or, refl, sym, ap, subst, ◌∙◌, arith}
use Rattle.std.specs.Prelude.{slice_set}
use Rattle.std.proofs.lemmas.List.{drop_more, take_more_set}
use Rattle.dirtylog.specs.Members.{IsLeast, has}
use Rattle.guestmem.specs.Among.{Among}
use Rattle.guestmem.specs.Item.{Item, after_all, page, sector}
use Rattle.machine.specs.PageLog.{AreHandedOut, NotedAreThese, may_note, may_stay_noted, noted}

next_more : (s mid : List Bool) (ns : List ℕ) (n : ℕ) → AreHandedOut s ns mid → IsLeast mid 0 n → AreHandedOut s (ns ++ n ∷ []) (slice_set mid n false)
next_more s mid [] n is least = (subst (λ (x : List Bool). IsLeast x 0 n) is least, ap (λ (x : List Bool). slice_set x n false) is)
next_more s mid (k ∷ ns) n is least = (is.0, next_more (slice_set s k false) mid ns n is.1 least)

pub put_more : (s mid : List Bool) (out : List ℕ) (at n : ℕ) → at < length out → AreHandedOut s (take at out) mid → IsLeast mid 0 n → AreHandedOut s (take (at + 1) (slice_set out at n)) (slice_set mid n false)
put_more s mid out at n below is least = subst (λ (ns : List ℕ). AreHandedOut s ns (slice_set mid n false)) (sym (take_more_set out at n below)) (next_more s mid (take at out) n is least)

drop_past : (out : List ℕ) (at n : ℕ) → drop (suc at) (slice_set out at n) ≡ drop (suc at) out
drop_past [] at n = refl
drop_past (x ∷ out) zero n = refl
drop_past (x ∷ out) (suc at) n = drop_past out at n

pub drop_set : (out : List ℕ) (at n : ℕ) → drop (at + 1) (slice_set out at n) ≡ drop (at + 1) out
drop_set out at n = let e : at + 1 ≡ suc at = omega arith in rw e (drop_past out at n)

pub drop_on : (out old : List ℕ) (at d : ℕ) → at < length out → at < length old → drop at out ≡ drop at old → drop (at + 1) out ≡ drop (at + 1) old
drop_on out old at d below there is =
    let both : get_or out at d ∷ drop (at + 1) out ≡ get_or old at d ∷ drop (at + 1) old = sym (drop_more out at d below) ∙ is ∙ drop_more old at d there in
    cc

-- A member that is taken in.
taken_is : (s : List Bool) (n k : ℕ) → has (set s n true) k ≡ true → (has s k ≡ true) ⊎ (k ≡ n)
taken_is [] n k is = inl is
taken_is (b ∷ s) zero zero is = inr refl
taken_is (b ∷ s) zero (suc k) is = inl is
taken_is (b ∷ s) (suc n) zero is = inl is
taken_is (b ∷ s) (suc n) (suc k) is = elim (taken_is s n k is) as (λ _. (has s k ≡ true) ⊎ (suc k ≡ suc n)) [ inl a ↦ inl a | inr e ↦ inr (ap suc e) ]

still_in : (s : List Bool) (n k : ℕ) → has s k ≡ true → has (set s n true) k ≡ true
still_in [] n k is = is
still_in (b ∷ s) zero zero is = refl
still_in (b ∷ s) zero (suc k) is = is
still_in (b ∷ s) (suc n) zero is = is
still_in (b ∷ s) (suc n) (suc k) is = still_in s n k is

is_in : (s : List Bool) (n : ℕ) → n < length s → has (set s n true) n ≡ true
is_in [] n below = absurd (omega (arith, below))
is_in (b ∷ s) zero below = refl
is_in (b ∷ s) (suc n) below = is_in s n (omega (arith, below))

-- The same of a log that is told of an item, and of several.
stays_noted : (pages : List Bool) (i : Item) (n : ℕ) → has pages n ≡ true → has (noted pages i) n ≡ true
stays_noted pages (page k) n is = still_in pages k n is
stays_noted pages (sector dev k) n is = is

noted_was : (pages : List Bool) (i : Item) (n : ℕ) → has (noted pages i) n ≡ true → (has pages n ≡ true) ⊎ (page n ≡ i)
noted_was pages (page k) n is = elim (taken_is pages k n is) as (λ _. (has pages n ≡ true) ⊎ (page n ≡ page k)) [ inl a ↦ inl a | inr e ↦ inr (ap page e) ]
noted_was pages (sector dev k) n is = inl is

noted_are : (pages : List Bool) (items : List Item) (n : ℕ) → has (after_all noted pages items) n ≡ true → (has pages n ≡ true) ⊎ Among items (page n)
noted_are pages [] n is = inl is
noted_are pages (i ∷ items) n is =
    elim (noted_are (noted pages i) items n is) as (λ _. (has pages n ≡ true) ⊎ Among (i ∷ items) (page n)) [
      | inl a ↦ elim (noted_was pages i n a) as (λ _. (has pages n ≡ true) ⊎ Among (i ∷ items) (page n)) [ inl b ↦ inl b | inr e ↦ inr (inl e) ]
      | inr t ↦ inr (inr t)
    ]

are_noted : (pages : List Bool) (items : List Item) (n : ℕ) → ((i : Item) → Among items i → may_note pages i) → (has pages n ≡ true) ⊎ Among items (page n) → has (after_all noted pages items) n ≡ true
are_noted pages [] n may (inl a) = a
are_noted pages [] n may (inr t) = absurd t
are_noted pages (i ∷ items) n may (inl a) = are_noted (noted pages i) items n (λ j t. may_stay_noted pages j i (may j (inr t))) (inl (stays_noted pages i n a))
are_noted pages (i ∷ items) n may (inr (inl e)) =
    are_noted (noted pages i) items n (λ j t. may_stay_noted pages j i (may j (inr t))) (inl (subst (λ (x : Item). has (noted pages x) n ≡ true) e (is_in pages n (may (page n) (inl e)))))
are_noted pages (i ∷ items) n may (inr (inr t)) = are_noted (noted pages i) items n (λ j u. may_stay_noted pages j i (may j (inr u))) (inr t)

pub these_noted : NotedAreThese
these_noted pages items may n = (noted_are pages items n, are_noted pages items n may)
