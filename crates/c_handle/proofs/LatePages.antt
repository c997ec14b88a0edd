-- Pages that are named later, by how they are named.
use Rattle.std.proofs.Common.{◌≡◌, ℕ, Bool, true, false, List, refl, sym, ap, ◌∙◌, subst, inl, inr, length}
use Rattle.std.specs.Prelude.{Option, Some, None, not, if◌then◌else◌}
use Rattle.guestmem.specs.Lent.{AreBelow}
use Rattle.machine.specs.Parked.{ParkedSeen, machine_marked}
use Rattle.machine.specs.Seen.{Seen}
use Rattle.sender.specs.LiveState.{LiveSeen}
use Rattle.sender.specs.Marks.{live_marked}
use Rattle.sender.specs.Parked.{LiveParkedSeen, with_pages}
use Rattle.c_machine.specs.Named.{are_pages, is_known_pages, named_pages, needs_list, pages_refusal}
use Rattle.c_machine.specs.declared.pages.Pages.{Pages}
use Rattle.c_machine.proofs.NamedPages.{listed, named_are, there}
use Rattle.c_handle.specs.HandedOut.{is_here}
use Rattle.c_handle.specs.Kept.{StillLent, MovingLent, State, Still, Moving, Lent}
use Rattle.c_handle.specs.Late.{IsMarked, MarksKept, all_pages, mark_refusal}
use Rattle.c_handle.specs.Mirror.{is_stopped}
use Rattle.c_handle.proofs.Lent.{below}

-- What is not refused is here, and the pages are pages.
three_tests : {A : Type 0} (here stopped known : Bool) (a b c : A) (rest : Option A) → ◌≡◌ {A = Option A} (if not here then Some a else if stopped then Some b else if not known then Some c else rest) None → (here ≡ true) × (rest ≡ None)
three_tests false stopped known a b c rest is = absurd cc
three_tests true true known a b c rest is = absurd cc
three_tests true false false a b c rest is = absurd cc
three_tests true false true a b c rest is = (refl, is)

tests_of : (k : State) (p : Pages) → mark_refusal k p ≡ None → (is_here k ≡ true) × (pages_refusal p (all_pages k) ≡ None)
tests_of k p none = three_tests (is_here k) (is_stopped k) (is_known_pages p) _ _ _ (pages_refusal p (all_pages k)) none

pub mark_here : (k : State) (p : Pages) (answer : Option ℕ) → answer ≡ mark_refusal k p → answer ≡ None → is_here k ≡ true
mark_here k p answer is none = (tests_of k p (sym is ∙ none)).0

pub listed_pages : (k : State) (p : Pages) (answer : Option ℕ) → answer ≡ mark_refusal k p → answer ≡ None → are_pages (all_pages k) p.list.now ≡ true
listed_pages k p answer is none = (there p (all_pages k) (tests_of k p (sym is ∙ none)).1).listed

pub named_pages_are : (k : State) (p : Pages) (numbers : List ℕ) (count : ℕ) (answer : Option ℕ) → answer ≡ mark_refusal k p → answer ≡ None → count ≡ all_pages k → numbers ≡ named_pages p count → are_pages (all_pages k) numbers ≡ true
named_pages_are k p numbers count answer is none counted are =
    subst (λ (l : List ℕ). are_pages (all_pages k) l ≡ true) (sym (are ∙ ap (named_pages p) counted)) (named_are p (all_pages k) (tests_of k p (sym is ∙ none)).1)

pub mark_fit : (k : State) (p : Pages) (count : ℕ) (answer : Option ℕ) → answer ≡ mark_refusal k p → answer ≡ None → count ≡ all_pages k → pages_refusal p count ≡ None
mark_fit k p count answer is none counted = subst (λ (n : ℕ). pages_refusal p n ≡ None) (sym counted) (tests_of k p (sym is ∙ none)).1

-- By whether it is refused, and whether the numbers were collected.
pub not_marked : (k : State) (p : Pages) (status : ℕ) (answer : Option ℕ) → answer ≡ mark_refusal k p → answer ≡ Some status → MarksKept k p status k
not_marked k p status answer is refused = rw (sym is ∙ refused) (refl, refl)

pub marked_list : (k next : State) (p : Pages) (answer : Option ℕ) → answer ≡ mark_refusal k p → answer ≡ None → needs_list p ≡ false → IsMarked k p.list.now next → MarksKept k p 0 next
marked_list k next p answer is none unlisted marked = rw (sym is ∙ none) (inl (record { status_is = refl; marked = rw (listed p (all_pages k) unlisted) marked }))

pub marked_named : (k next : State) (p : Pages) (numbers : List ℕ) (count : ℕ) (answer : Option ℕ) → answer ≡ mark_refusal k p → answer ≡ None → count ≡ all_pages k → numbers ≡ named_pages p count → IsMarked k numbers next → MarksKept k p 0 next
marked_named k next p numbers count answer is none counted are marked =
    rw (sym is ∙ none) (inl (record { status_is = refl; marked = subst (λ (l : List ℕ). IsMarked k l next) (are ∙ ap (named_pages p) counted) marked }))

pub mark_full : (k : State) (p : Pages) (answer : Option ℕ) → answer ≡ mark_refusal k p → answer ≡ None → needs_list p ≡ true → MarksKept k p 10 k
mark_full k p answer is none needs = rw (sym is ∙ none) (inr (needs, (refl, refl)))

-- What is marked lies below the count of pages.
pub pages_below_still : (k : State) (m : Seen) (pages : List ℕ) → k ≡ Still m → are_pages (all_pages k) pages ≡ true → AreBelow (length m.memory.versions) pages
pages_below_still k m pages is are = below (length m.memory.versions) pages (ap (λ (x : State). are_pages (all_pages x) pages) (sym is) ∙ are)

pub pages_below_moving : (k : State) (l : LiveSeen) (pages : List ℕ) → k ≡ Moving l → are_pages (all_pages k) pages ≡ true → AreBelow (length l.machine.memory.versions) pages
pages_below_moving k l pages is are = below (length l.machine.memory.versions) pages (ap (λ (x : State). are_pages (all_pages x) pages) (sym is) ∙ are)

pub pages_below_lent : (k : State) (p : LiveParkedSeen) (pages : List ℕ) → k ≡ Lent (MovingLent p) → are_pages (all_pages k) pages ≡ true → AreBelow (length p.machine.memory) pages
pages_below_lent k p pages is are = below (length p.machine.memory) pages (ap (λ (x : State). are_pages (all_pages x) pages) (sym is) ∙ are)

pub marked_still : (k : State) (m next : Seen) (pages : List ℕ) → k ≡ Still m → next ≡ machine_marked m pages → IsMarked k pages (Still next)
marked_still k m next pages is marked = subst (λ (x : State). IsMarked x pages (Still next)) (sym is) marked

pub marked_moving : (k : State) (l next : LiveSeen) (pages : List ℕ) → k ≡ Moving l → next ≡ live_marked l pages → IsMarked k pages (Moving next)
marked_moving k l next pages is marked = subst (λ (x : State). IsMarked x pages (Moving next)) (sym is) marked

pub marked_still_lent : (k : State) (p next : ParkedSeen) (pages : List ℕ) → k ≡ Lent (StillLent p) → next ≡ p → IsMarked k pages (Lent (StillLent next))
marked_still_lent k p next pages is same = subst (λ (x : State). IsMarked x pages (Lent (StillLent next))) (sym is) same

pub marked_moving_lent : (k : State) (p next : LiveParkedSeen) (pages : List ℕ) → k ≡ Lent (MovingLent p) → next ≡ record p { dirty = with_pages p.dirty pages } → IsMarked k pages (Lent (MovingLent next))
marked_moving_lent k p next pages is marked = subst (λ (x : State). IsMarked x pages (Lent (MovingLent next))) (sym is) marked
