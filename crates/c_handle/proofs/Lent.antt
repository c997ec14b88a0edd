-- RAM that is given back, with the pages that are named.
use Rattle.std.proofs.Common.{◌≡◌, ◌<◌, ◌*◌, ◌==◌, ℕ, Bool, true, false, nat_lt, List, [], ◌∷◌, refl, sym, ap, ◌∙◌, subst, arith, inl, inr, length}
use Prim.Native.Nat.{zero, suc}
use Rattle.std.specs.Prelude.{All, Option, Some, None, not, if◌then◌else◌}
use Rattle.region.specs.declared.slot.Slot.{Slot}
use Rattle.machine.specs.Seen.{Seen}
use Rattle.sender.specs.LiveState.{LiveSeen}
use Rattle.c_handle.specs.Kept.{LoanSeen, State, Still, Moving, Arriving, Lent, parked_in}
use Rattle.c_handle.specs.Lent.{ComesBack, HasComeBack, IsReturnable, back_refusal_of, lend_refusal_of, lent_pages}
use Rattle.c_handle.specs.Mirror.{is_closed}
use Rattle.c_machine.specs.Named.{are_pages, is_known_pages, named_pages, needs_list, pages_refusal}
use Rattle.c_machine.specs.declared.pages.Pages.{Pages}
use Rattle.c_machine.proofs.Imaging.{eq_of}
use Rattle.c_machine.proofs.NamedPages.{listed, named_are, there}
use Rattle.c_machine.proofs.PageNumbers.{both_left, both_right, is_page}

-- The pages are below the count.
pub below : (count : ℕ) (pages : List ℕ) → are_pages count pages ≡ true → All (λ (n : ℕ). n < count) pages
below count [] are k d less = absurd (omega (arith, less))
below count (n ∷ pages) are zero d less = is_page n count (both_left (nat_lt n count) (are_pages count pages) are)
below count (n ∷ pages) are (suc k) d less = below count pages (both_right (nat_lt n count) (are_pages count pages) are) k d (omega (arith, less))

-- What is not refused may come back.
two_tests : {A : Type 0} (known same : Bool) (a b : A) (rest : Option A) → ◌≡◌ {A = Option A} (if not known then Some a else if not same then Some b else rest) None → (same ≡ true) × (rest ≡ None)
two_tests false same a b rest is = absurd cc
two_tests true false a b rest is = absurd cc
two_tests true true a b rest is = (refl, is)

pub record IsGone (x : LoanSeen) (bytes : ℕ) (pages : Pages) : Type 0 where
  pub long : bytes ≡ 4096 * length (parked_in x).memory
  pub fit : pages_refusal pages (length (parked_in x).memory) ≡ None

pub record IsOut (k : State) (bytes : ℕ) (pages : Pages) : Type 0 where
  pub loan : LoanSeen
  pub is : k ≡ Lent loan
  pub gone : IsGone loan bytes pages

pub out : (k : State) (bytes : ℕ) (pages : Pages) → back_refusal_of k bytes pages ≡ None → IsOut k bytes pages
out (Still m) bytes pages none = absurd cc
out (Moving l) bytes pages none = absurd cc
out (Arriving r) bytes pages none = absurd cc
out (Lent x) bytes pages none =
    let tests = two_tests (is_known_pages pages) (bytes == 4096 * length (parked_in x).memory) _ _ (pages_refusal pages (length (parked_in x).memory)) none in
    record { loan = x; is = refl; gone = record { long = eq_of bytes (4096 * length (parked_in x).memory) tests.0; fit = tests.1 } }

-- The pages that are named are pages.
returnable : (k : State) (ram old : Slot) (pages : Pages) (numbers : List ℕ) (answer : Option ℕ) → answer ≡ back_refusal_of k (length old.content) pages → answer ≡ None → ram ≡ old
    → ((count : ℕ) → pages_refusal pages count ≡ None → count ≡ lent_pages k → are_pages count numbers ≡ true) → IsReturnable k (length ram.content) numbers
returnable k ram old pages numbers answer is none same are =
    let o = out k (length old.content) pages (sym is ∙ none) in
    let here : IsReturnable (Lent o.loan) (length ram.content) numbers = (ap (λ (s : Slot). length s.content) same ∙ o.gone.long, are (length (parked_in o.loan).memory) o.gone.fit (ap lent_pages (sym o.is))) in
    subst (λ (x : State). IsReturnable x (length ram.content) numbers) (sym o.is) here

pub returnable_list : (k : State) (ram old : Slot) (pages : Pages) (answer : Option ℕ) → answer ≡ back_refusal_of k (length old.content) pages → answer ≡ None → ram ≡ old → IsReturnable k (length ram.content) pages.list.now
returnable_list k ram old pages answer is none same = returnable k ram old pages pages.list.now answer is none same (λ count fit counted. (there pages count fit).listed)

pub returnable_named : (k : State) (ram old : Slot) (pages : Pages) (numbers : List ℕ) (count : ℕ) (answer : Option ℕ) → answer ≡ back_refusal_of k (length old.content) pages → answer ≡ None → ram ≡ old → count ≡ lent_pages k → numbers ≡ named_pages pages count
    → IsReturnable k (length ram.content) numbers
returnable_named k ram old pages numbers count answer is none same counted are =
    returnable k ram old pages numbers answer is none same (λ n fit here. subst (λ (l : List ℕ). are_pages n l ≡ true) (sym (are ∙ ap (named_pages pages) (counted ∙ sym here))) (named_are pages n fit))

pub fit_of : (k : State) (old : Slot) (pages : Pages) (count : ℕ) (answer : Option ℕ) → answer ≡ back_refusal_of k (length old.content) pages → answer ≡ None → count ≡ lent_pages k → pages_refusal pages count ≡ None
fit_of k old pages count answer is none counted =
    let o = out k (length old.content) pages (sym is ∙ none) in
    subst (λ (n : ℕ). pages_refusal pages n ≡ None) (sym (counted ∙ ap lent_pages o.is)) o.gone.fit

-- By whether it is refused, and whether the numbers were collected.
pub not_back : (k : State) (ram new_ram : Slot) (pages : Pages) (status : ℕ) (answer : Option ℕ) → answer ≡ back_refusal_of k (length ram.content) pages → answer ≡ Some status → new_ram ≡ ram → ComesBack k ram pages status new_ram k
not_back k ram new_ram pages status answer is refused same = rw (sym is ∙ refused) ((refl, same), refl)

pub came_list : (k next : State) (ram mid new_ram : Slot) (pages : Pages) (answer : Option ℕ) → answer ≡ back_refusal_of k (length ram.content) pages → answer ≡ None → mid ≡ ram → needs_list pages ≡ false → HasComeBack k mid pages.list.now 0 new_ram next
    → ComesBack k ram pages 0 new_ram next
came_list k next ram mid new_ram pages answer is none same unlisted has =
    let named : HasComeBack k ram (named_pages pages (lent_pages k)) 0 new_ram next = rw (← same, listed pages (lent_pages k) unlisted) has in
    rw (sym is ∙ none) (inl named)

pub came_named : (k next : State) (ram mid new_ram : Slot) (pages : Pages) (numbers : List ℕ) (count : ℕ) (answer : Option ℕ) → answer ≡ back_refusal_of k (length ram.content) pages → answer ≡ None → mid ≡ ram → count ≡ lent_pages k → numbers ≡ named_pages pages count
    → HasComeBack k mid numbers 0 new_ram next → ComesBack k ram pages 0 new_ram next
came_named k next ram mid new_ram pages numbers count answer is none same counted are has =
    let named : HasComeBack k ram (named_pages pages (lent_pages k)) 0 new_ram next = subst (λ (l : List ℕ). HasComeBack k ram l 0 new_ram next) (are ∙ ap (named_pages pages) counted) (subst (λ (s : Slot). HasComeBack k s numbers 0 new_ram next) same has) in
    rw (sym is ∙ none) (inl named)

pub back_full : (k : State) (ram new_ram : Slot) (pages : Pages) (answer : Option ℕ) → answer ≡ back_refusal_of k (length ram.content) pages → answer ≡ None → needs_list pages ≡ true → new_ram ≡ ram → ComesBack k ram pages 10 new_ram k
back_full k ram new_ram pages answer is none needs same = rw (sym is ∙ none) (inr (needs, ((refl, same), refl)))

-- A slot into which RAM may go is free.
by_test : (stopped free : Bool) → ◌≡◌ {A = Option ℕ} (if stopped then Some 21 else if not free then Some 26 else None) None → free ≡ true
by_test true free is = absurd cc
by_test false true is = refl
by_test false false is = absurd cc

empty_of : (bytes : List ℕ) → length bytes ≡ 0 → bytes ≡ []
empty_of [] e = refl
empty_of (x ∷ bytes) e = absurd cc

pub free_slot : (k : State) (l : LiveSeen) (bytes : List ℕ) → k ≡ Moving l → lend_refusal_of k (length bytes) ≡ None → bytes ≡ []
free_slot k l bytes is none =
    let going : lend_refusal_of (Moving l) (length bytes) ≡ None = subst (λ (x : State). lend_refusal_of x (length bytes) ≡ None) is none in
    empty_of bytes (eq_of (length bytes) 0 (by_test (is_closed l.phase) (length bytes == 0) going))

pub free_still : (k : State) (m : Seen) (bytes : List ℕ) → k ≡ Still m → lend_refusal_of k (length bytes) ≡ None → bytes ≡ []
free_still k m bytes is none =
    let going : lend_refusal_of (Still m) (length bytes) ≡ None = subst (λ (x : State). lend_refusal_of x (length bytes) ≡ None) is none in
    empty_of bytes (eq_of (length bytes) 0 (by_test false (length bytes == 0) going))
