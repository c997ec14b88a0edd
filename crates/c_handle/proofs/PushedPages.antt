-- Pages that are handed in, by how they are named.
use Rattle.std.proofs.Common.{◌≡◌, ℕ, Bool, true, false, List, refl, sym, ap, ◌∙◌, subst, inl, inr, length}
use Rattle.std.specs.Prelude.{Option, Some, None}
use Rattle.c_handle.specs.Kept.{State}
use Rattle.c_handle.specs.Mirror.{ArePushed, IsPushable, PushesKept, is_away, is_short, is_stopped, memory_in, push_refusal}
use Rattle.c_machine.specs.Named.{are_pages, is_known_pages, named_pages, needs_list, pages_refusal}
use Rattle.c_machine.specs.declared.pages.Pages.{Pages}
use Rattle.c_handle.proofs.Mirrored.{push_tests, pushable}
use Rattle.c_machine.proofs.NamedPages.{listed, named_are, there}

pub pushable_list : (k : State) (p : Pages) (bytes entries : ℕ) (answer : Option ℕ) → answer ≡ push_refusal k p bytes entries → answer ≡ None → IsPushable k p.list.now bytes entries
pushable_list k p bytes entries answer is none = pushable k p p.list.now bytes entries (sym is ∙ none) (λ fit. (there p (length (memory_in k).versions) fit).listed)

pub pushable_named : (k : State) (p : Pages) (numbers : List ℕ) (count bytes entries : ℕ) (answer : Option ℕ) → answer ≡ push_refusal k p bytes entries → answer ≡ None → count ≡ length (memory_in k).versions → numbers ≡ named_pages p count → IsPushable k numbers bytes entries
pushable_named k p numbers count bytes entries answer is none counted are =
    pushable k p numbers bytes entries (sym is ∙ none) (λ fit. subst (λ (l : List ℕ). are_pages (length (memory_in k).versions) l ≡ true) (sym (are ∙ ap (named_pages p) counted)) (named_are p (length (memory_in k).versions) fit))

pub push_fit : (k : State) (p : Pages) (count bytes entries : ℕ) (answer : Option ℕ) → answer ≡ push_refusal k p bytes entries → answer ≡ None → count ≡ length (memory_in k).versions → pages_refusal p count ≡ None
push_fit k p count bytes entries answer is none counted =
    let tests = push_tests _ _ _ _ (is_away k) (is_stopped k) (is_known_pages p) (is_short (memory_in k) bytes entries) (pages_refusal p (length (memory_in k).versions)) (sym is ∙ none) in
    subst (λ (n : ℕ). pages_refusal p n ≡ None) (sym counted) tests.3

pub not_pushed : (k : State) (log : Option (List Bool)) (p : Pages) (ram seen : List ℕ) (status : ℕ) (answer : Option ℕ) → answer ≡ push_refusal k p (length ram) (length seen) → answer ≡ Some status → PushesKept k log p ram status seen seen k log
not_pushed k log p ram seen status answer is refused = rw (sym is ∙ refused) ((refl, refl), refl, refl)

pub pushed_list : (k next : State) (log new_log : Option (List Bool)) (p : Pages) (ram seen new_seen : List ℕ) (status : ℕ) (answer : Option ℕ) → answer ≡ push_refusal k p (length ram) (length seen) → answer ≡ None → needs_list p ≡ false → ArePushed k log p.list.now ram seen new_seen next new_log → status ≡ 0
    → PushesKept k log p ram status seen new_seen next new_log
pushed_list k next log new_log p ram seen new_seen status answer is none unlisted pushed told =
    rw (sym is ∙ none) (inl (record { pushed = rw (listed p (length (memory_in k).versions) unlisted) pushed; status_is = told }))

pub pushed_named : (k next : State) (log new_log : Option (List Bool)) (p : Pages) (numbers ram seen new_seen : List ℕ) (count status : ℕ) (answer : Option ℕ) → answer ≡ push_refusal k p (length ram) (length seen) → answer ≡ None → count ≡ length (memory_in k).versions → numbers ≡ named_pages p count
    → ArePushed k log numbers ram seen new_seen next new_log → status ≡ 0 → PushesKept k log p ram status seen new_seen next new_log
pushed_named k next log new_log p numbers ram seen new_seen count status answer is none counted are pushed told =
    rw (sym is ∙ none) (inl (record { pushed = subst (λ (l : List ℕ). ArePushed k log l ram seen new_seen next new_log) (are ∙ ap (named_pages p) counted) pushed; status_is = told }))

pub push_full : (k : State) (log : Option (List Bool)) (p : Pages) (ram seen : List ℕ) (answer : Option ℕ) → answer ≡ push_refusal k p (length ram) (length seen) → answer ≡ None → needs_list p ≡ true → PushesKept k log p ram 10 seen seen k log
push_full k log p ram seen answer is none needs = rw (sym is ∙ none) (inr (needs, ((refl, refl), refl, refl)))
