-- What is sent next, and a page that is handed in.
use Rattle.std.proofs.Common.{◌≡◌, ◌≢◌, ◌<◌, ℕ, Bool, true, false, nat_lt, List, refl, sym, ap, ◌∙◌, subst, arith, inl, inr, length, true≢false, ◌⊎◌}
use Rattle.std.specs.Prelude.{Option, Some, None, MatchOption, Result, Ok, Err, not, if◌then◌else◌}
use Rattle.std.proofs.lemmas.Bool.Decides.{nat_tests}
use Rattle.dirtylog.specs.Members.{IsLeast, has}
use Rattle.machine.proofs.Numbering.{either_way}
use Rattle.sender.specs.HandedIn.{HandsInBy, HandsInPage, IsNextPage}
use Rattle.sender.specs.LiveState.{refusal_for}
use Rattle.sender.specs.Parked.{LiveParkedSeen}
use Rattle.sender.specs.SectorsLent.{IsNextDue}
use Rattle.sender.specs.declared.event.LiveEvent.TheVariants.{Copy}
use Rattle.sender.specs.declared.event.NextDue.{NextDue}
use Rattle.sender.specs.declared.mig_error.MigError.{MigError}
use Rattle.sender.specs.declared.mig_error.MigError.TheVariants as errors
use Rattle.sender.specs.declared.phase.Phase.{Phase}
use Rattle.c_handle.specs.HandingIn.{AsksNext, HandsNext, HandsPage, IsNotNext, IsTold, handed_status, page_refusal}
use Rattle.c_handle.specs.Migrated.{send_refusal}
use Rattle.c_handle.specs.OnHandle.{Unless}

-- What is next.
pub next_refused : (pages : ℕ) (phase : Phase) (due : List Bool) (status page : ℕ) (answer : Option ℕ) → answer ≡ Some status → answer ≡ send_refusal phase → AsksNext pages phase due status page page
next_refused pages phase due status page answer is asked = rw (sym asked ∙ is) (refl, refl)

pub next_told : (pages : ℕ) (phase : Phase) (due : List Bool) (status page old : ℕ) (answer : Option ℕ) (next : NextDue) → answer ≡ None → answer ≡ send_refusal phase → IsNextDue pages due next → IsTold next status page old → AsksNext pages phase due status page old
next_told pages phase due status page old answer next is asked is_next told = rw (sym asked ∙ is) (record { next = next; is_next = is_next; told = told })

-- A page that is not refused is there.
by_test : (inside : Bool) → ◌≡◌ {A = Option ℕ} (if not inside then Some 2 else None) None → inside ≡ true
by_test true is = refl
by_test false is = absurd cc

there_by : (refusal : Option ℕ) (pages page : ℕ) → page_refusal refusal pages page ≡ None → nat_lt page pages ≡ true
there_by (Some reason) pages page none = absurd cc
there_by None pages page none = by_test (nat_lt page pages) none

there : (refusal answer : Option ℕ) (pages page : ℕ) → answer ≡ page_refusal refusal pages page → answer ≡ None → page < pages
there refusal answer pages page asked is =
    let inside : nat_lt page pages ≡ true = there_by refusal pages page (sym asked ∙ is) in
    grind (arith, nat_tests, inside)

-- Two least members are one.
below : (due : List Bool) (a b : ℕ) → IsLeast due 0 a → IsLeast due 0 b → a < b → ⊥
below due a b x y less = true≢false (sym x.member ∙ y.least a (omega arith) less)

one_least : (due : List Bool) (a b : ℕ) → IsLeast due 0 a → IsLeast due 0 b → a ≢ b → ⊥
one_least due a b x y other = elim (either_way (nat_lt a b)) as (λ _. ⊥) [
  | inl e ↦ (let less : a < b = grind (arith, nat_tests, e) in below due a b x y less)
  | inr e ↦ (let less : b < a = grind (arith, nat_tests, e, other) in below due b a y x less)
]

-- By whether the page is refused, and by what is next.
pub page_refused : (p : LiveParkedSeen) (page status : ℕ) (bytes : List ℕ) (answer : Option ℕ) → answer ≡ Some status → answer ≡ page_refusal (send_refusal p.phase) (length p.machine.memory) page → HandsPage p page bytes status p
page_refused p page status bytes answer is asked = rw (sym asked ∙ is) (refl, refl)

pub none_next : (p : LiveParkedSeen) (page : ℕ) (bytes : List ℕ) (answer next : Option ℕ) → answer ≡ None → answer ≡ page_refusal (send_refusal p.phase) (length p.machine.memory) page → IsNextPage (length p.machine.memory) p.due next → next ≡ None → HandsPage p page bytes 32 p
none_next p page bytes answer next is asked is_next none =
    let inside : page < length p.machine.memory = there (send_refusal p.phase) answer (length p.machine.memory) page asked is in
    let out : has p.due page ≡ false = subst (IsNextPage (length p.machine.memory) p.due) none is_next page inside in
    rw (sym asked ∙ is) (inr (record { another = λ least. true≢false (sym least.member ∙ out); status_is = refl; same = refl }))

pub other_next : (p : LiveParkedSeen) (page other : ℕ) (bytes : List ℕ) (answer next : Option ℕ) → answer ≡ None → answer ≡ page_refusal (send_refusal p.phase) (length p.machine.memory) page → IsNextPage (length p.machine.memory) p.due next → next ≡ Some other
    → other ≢ page → HandsPage p page bytes 32 p
other_next p page other bytes answer next is asked is_next some differs =
    let found : IsLeast p.due 0 other = (subst (IsNextPage (length p.machine.memory) p.due) some is_next).0 in
    rw (sym asked ∙ is) (inr (record { another = λ least. one_least p.due other page found least differs; status_is = refl; same = refl }))

pub next_is : (p : LiveParkedSeen) (page other : ℕ) (next : Option ℕ) → IsNextPage (length p.machine.memory) p.due next → next ≡ Some other → other ≡ page → IsLeast p.due 0 page
next_is p page other next is_next some same = subst (IsLeast p.due 0) same (subst (IsNextPage (length p.machine.memory) p.due) some is_next).0

pub next_is_inside : (p : LiveParkedSeen) (page : ℕ) (answer : Option ℕ) → answer ≡ None → answer ≡ page_refusal (send_refusal p.phase) (length p.machine.memory) page → page < length p.machine.memory
next_is_inside p page answer is asked = there (send_refusal p.phase) answer (length p.machine.memory) page asked is

pub handed : (p next : LiveParkedSeen) (page other status : ℕ) (bytes : List ℕ) (answer found : Option ℕ) (result : Result (Unit {0}) MigError) → answer ≡ None → answer ≡ page_refusal (send_refusal p.phase) (length p.machine.memory) page
    → IsNextPage (length p.machine.memory) p.due found → found ≡ Some other → other ≡ page → HandsInPage p page bytes result next → status ≡ handed_status result → HandsPage p page bytes status next
handed p next page other status bytes answer found result is asked is_next some same hands told =
    rw (sym asked ∙ is) (inl (record { result = result; is_next = next_is p page other found is_next some same; hands = hands; status_is = told }))

-- RAM has as many pages after it.
handed_by : (p next : LiveParkedSeen) (page : ℕ) (bytes : List ℕ) (result : Result (Unit {0}) MigError) → HandsInBy p page bytes result next → next.machine ≡ p.machine
handed_by p next page bytes (Ok x) h = ap (λ (q : LiveParkedSeen). q.machine) h.rest
handed_by p next page bytes (Err errors.StreamFailed) h = ap (λ (q : LiveParkedSeen). q.machine) h.rest
handed_by p next page bytes (Err errors.NotBegun) h = absurd h
handed_by p next page bytes (Err errors.AlreadyBegun) h = absurd h
handed_by p next page bytes (Err (errors.DiskFailed dev n)) h = absurd h
handed_by p next page bytes (Err errors.AlreadyStopped) h = absurd h
handed_by p next page bytes (Err errors.RoundsEnded) h = absurd h

handed_unless : (o : Option MigError) (p next : LiveParkedSeen) (page : ℕ) (bytes : List ℕ) (result : Result (Unit {0}) MigError) → MatchOption o (HandsInBy p page bytes result next) (λ x. (result ≡ Err x) × (next ≡ p)) → next.machine ≡ p.machine
handed_unless None p next page bytes result h = handed_by p next page bytes result h
handed_unless (Some x) p next page bytes result h = ap (λ (q : LiveParkedSeen). q.machine) h.1

pub hands_same : (o : Option ℕ) (p next : LiveParkedSeen) (page status : ℕ) (bytes : List ℕ) → Unless o (λ reason. (status ≡ reason) × (next ≡ p)) (HandsNext p page bytes status next ⊎ IsNotNext p page status next) → next.machine ≡ p.machine
hands_same (Some reason) p next page status bytes h = ap (λ (q : LiveParkedSeen). q.machine) h.1
hands_same None p next page status bytes (inl h) = handed_unless (refusal_for p.phase Copy) p next page bytes h.result h.hands
hands_same None p next page status bytes (inr h) = ap (λ (q : LiveParkedSeen). q.machine) h.same
