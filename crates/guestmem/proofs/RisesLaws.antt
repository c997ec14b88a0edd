-- What follows where versions rise in exactly the pages that were touched.
use Rattle.std.proofs.Common.{◌≡◌, ℕ, ◌+◌, ◌-◌, ◌^◌, ◌≤◌, nat_lt, Bool, true, false, cond, ◌⊎◌, inl, inr, List, [], ◌∷◌, ◌++◌, get_or, refl, ap, ◌∙◌, arith}
use Rattle.std.proofs.lemmas.Bool.{cases_lt}
use Rattle.guestmem.specs.Among.{Among}
use Rattle.guestmem.specs.Item.{Item, page, sector}
use Rattle.guestmem.specs.Memory.{Memory}
use Rattle.guestmem.specs.Rises.{Rises, Touches}
use Rattle.guestmem.specs.Write.{raised}

pub same_page : (n m : ℕ) → page n ≡ page m → n ≡ m
same_page n m e = cc

no_sector : (n device m : ℕ) → page n ≡ sector device m → ⊥
no_sector n device m e = cc

is_number : (n m : ℕ) → (n ≡ m) ⊎ ¬ (n ≡ m)
is_number n m =
    elim (cases_lt n m) as (λ _. (n ≡ m) ⊎ ¬ (n ≡ m)) [
      | inl below ↦ inr (λ e. absurd (omega (arith, e, below)))
      | inr from ↦ elim (cases_lt m n) as (λ _. (n ≡ m) ⊎ ¬ (n ≡ m)) [
        | inl above ↦ inr (λ e. absurd (omega (arith, e, above)))
        | inr to ↦ inl (omega arith)
      ]
    ]

-- A page is among these items, or it is not.
pub is_among : (items : List Item) (n : ℕ) → Among items (page n) ⊎ ¬ (Among items (page n))
is_among [] n = inr (λ h. h)
is_among (page m ∷ items) n =
    elim (is_number n m) as (λ _. Among (page m ∷ items) (page n) ⊎ ¬ (Among (page m ∷ items) (page n))) [
      | inl e ↦ inl (inl (ap page e))
      | inr other ↦ elim (is_among items n) as (λ _. Among (page m ∷ items) (page n) ⊎ ¬ (Among (page m ∷ items) (page n))) [
        | inl there ↦ inl (inr there)
        | inr none ↦ inr (λ h. elim h as (λ _. ⊥) [ inl e ↦ other (same_page n m e) | inr there ↦ none there ])
      ]
    ]
is_among (sector device m ∷ items) n =
    elim (is_among items n) as (λ _. Among (sector device m ∷ items) (page n) ⊎ ¬ (Among (sector device m ∷ items) (page n))) [
      | inl there ↦ inl (inr there)
      | inr none ↦ inr (λ h. elim h as (λ _. ⊥) [ inl e ↦ no_sector n device m e | inr there ↦ none there ])
    ]

pub among_first : (is js : List Item) (i : Item) → Among is i → Among (is ++ js) i
among_first [] js i h = absurd h
among_first (k ∷ is) js i (inl e) = inl e
among_first (k ∷ is) js i (inr h) = inr (among_first is js i h)

pub among_second : (is js : List Item) (i : Item) → Among js i → Among (is ++ js) i
among_second [] js i h = h
among_second (k ∷ is) js i h = inr (among_second is js i h)

further : (is js : List Item) (k i : Item) → Among is i ⊎ Among js i → Among (k ∷ is) i ⊎ Among js i
further is js k i (inl h) = inl (inr h)
further is js k i (inr h) = inr h

pub among_either : (is js : List Item) (i : Item) → Among (is ++ js) i → Among is i ⊎ Among js i
among_either [] js i h = inr h
among_either (k ∷ is) js i (inl e) = inl (inl e)
among_either (k ∷ is) js i (inr h) = further is js k i (among_either is js i h)

above_by : (below : Bool) (version : ℕ) → version ≤ cond below (version + 1) version
above_by true version = omega arith
above_by false version = omega arith

above_itself : (version : ℕ) → version ≤ raised version
above_itself version = above_by (nat_lt version (2 ^ 64 - 1)) version

-- No version falls.
pub none_falls : (items : List Item) (old new : Memory) → Rises items old new → (n : ℕ) → get_or old.versions n 0 ≤ get_or new.versions n 0
none_falls items old new h n =
    elim (is_among items n) as (λ _. get_or old.versions n 0 ≤ get_or new.versions n 0) [
      | inl there ↦ omega (arith, h.rises n there, above_itself (get_or old.versions n 0))
      | inr none ↦ omega (arith, h.stays n none)
    ]

-- Where nothing changes, no item is touched.
pub rises_none : (old new : Memory) → new ≡ old → Rises [] old new
rises_none old new same = record { rises = λ n there. absurd there; stays = λ n none. ap (λ (m : Memory). get_or m.versions n 0) same }

-- A sector is no page.
pub rises_sector : (device n : ℕ) (m : Memory) → Rises (sector device n ∷ []) m m
rises_sector device n m = record { rises = λ k there. elim there as (λ _. raised (get_or m.versions k 0) ≤ get_or m.versions k 0) [ inl e ↦ absurd (no_sector k device n e) | inr none ↦ absurd none ]; stays = λ k none. refl }

rises_again : (old mid new : ℕ) → raised old ≤ mid → mid ≤ new → raised old ≤ new
rises_again old mid new h k = omega (arith, h, k)

rises_then : (is js : List Item) (old mid new : Memory) → Rises is old mid → Rises js mid new → (n : ℕ) → Among is (page n) ⊎ ¬ (Among is (page n)) → Among is (page n) ⊎ Among js (page n)
    → raised (get_or old.versions n 0) ≤ get_or new.versions n 0
rises_then is js old mid new h k n (inl there) either = rises_again (get_or old.versions n 0) (get_or mid.versions n 0) (get_or new.versions n 0) (h.rises n there) (none_falls js mid new k n)
rises_then is js old mid new h k n (inr none) (inl there) = absurd (none there)
rises_then is js old mid new h k n (inr none) (inr there) = rw (← h.stays n none) (k.rises n there)

-- Items that were touched one after another were touched together.
pub rises_append : (is js : List Item) (old mid new : Memory) → Rises is old mid → Rises js mid new → Rises (is ++ js) old new
rises_append is js old mid new h k = record {
  rises = λ n there. rises_then is js old mid new h k n (is_among is n) (among_either is js (page n) there);
  stays = λ n none. k.stays n (λ there. none (among_second is js (page n) there)) ∙ h.stays n (λ there. none (among_first is js (page n) there));
}

pub touches_none : {L : Type 0} (after : L → Item → L) (log new_log : L) (old new : Memory) → new_log ≡ log → new ≡ old → Touches after log new_log old new []
touches_none after log new_log old new same_log same = record { log_is = same_log; rises = rises_none old new same }
