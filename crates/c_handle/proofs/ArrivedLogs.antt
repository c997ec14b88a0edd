-- The log of a machine that has arrived.
use Rattle.std.proofs.Common.{◌≡◌, ◌≤◌, ◌*◌, ◌==◌, ◌&&◌, not, nat_lt, ℕ, Bool, true, false, List, ◌++◌, refl, sym, ap, ◌∙◌, subst, arith, length, inl, true≢false, eq-eqb}
use Rattle.std.specs.Prelude.{Option, Some, None, IfSome, if◌then◌else◌}
use Rattle.std.proofs.lemmas.Bool.Decides.{nat_tests}
use Rattle.machine.specs.Layout.{pages_of}
use Rattle.machine.specs.Limits.{AreWithin}
use Rattle.machine.specs.Seen.{state_of}
use Rattle.machine.specs.Sound.{IsSound}
use Rattle.machine.specs.State.{MachineState}
use Rattle.machine.specs.declared.limits.Limits.{Limits}
use Rattle.machine.specs.declared.shape.Shape.{Shape}
use Rattle.wire.proofs.HeaderParts.{begins_once}
use Rattle.wire.proofs.Unique.{stream_begins}
use Rattle.wire.specs.Header.{Begins, Opening}
use Rattle.wire.specs.Stream.{IsStream}
use Rattle.receiver.specs.Receiving.{NoFault}
use Rattle.receiver.specs.declared.ram_terms.RamTerms.{RamTerms}
use Rattle.receiver.specs.declared.recv_error.RecvError.TheVariants.{ShapeMismatch}
use Rattle.receiver.specs.declared.terms.Terms.{Terms}
use Rattle.c_machine.proofs.Imaging.{eq_of}
use Rattle.c_machine.specs.Made.{limits_for}
use Rattle.c_machine.specs.declared.setup.Expected.{Expected}
use Rattle.c_handle.proofs.Admissions.{begins_longer}
use Rattle.c_handle.specs.Admission.{is_within, stream_refusal}
use Rattle.c_handle.specs.ArrivalSeen.{ArrivalSeen}
use Rattle.c_handle.specs.ArrivedLogs.{ArrivedHasPlaces}
use Rattle.c_handle.specs.Arriving.{has_more}
use Rattle.c_handle.specs.Awaited.{GoesOnWith, awaited_ram, awaited_sizes}
use Rattle.c_handle.specs.Expected.{allowed_of, limits_in, places_of, terms_if, terms_in, terms_of}
use Rattle.c_handle.specs.declared.admission.Allowed.{Allowed}

tested_few : (a b : ℕ) → nat_lt a b ≡ false → b ≤ a
tested_few a b is = grind (arith, nat_tests)

few_tested : (a b : ℕ) → b ≤ a → nat_lt a b ≡ false
few_tested a b few = grind (arith, nat_tests)

-- The header says how many pages the machine has that came.
same_pages : (bytes more : List ℕ) (opening : Opening) (rest : List ℕ) (m : MachineState) → Begins bytes opening rest → IsStream (bytes ++ more) m → opening.pages ≡ pages_of m
same_pages bytes more opening rest m begins stream = ap (λ (o : Opening). o.pages) (begins_once (begins_longer bytes more opening rest begins) (stream_begins stream.by)).0

-- No more are let in than are allowed.
first_test : (a b : Bool) (x y : ℕ) → ◌≡◌ {A = Option ℕ} (if not a then Some x else if b then Some y else None) None → a ≡ true
first_test true b x y is = refl
first_test false b x y is = absurd cc

first_of : (a b : Bool) → (not a && b) ≡ true → a ≡ false
first_of false b is = refl
first_of true b is = absurd cc

few_let_in : (allowed : Allowed) (expected : List Shape) (pages : ℕ) (shapes : List Shape) → stream_refusal allowed expected pages shapes ≡ None → pages ≤ allowed.pages
few_let_in allowed expected pages shapes fine =
    let within : is_within allowed pages shapes ≡ true = first_test (is_within allowed pages shapes) _ _ _ fine in
    tested_few allowed.pages pages (first_of (nat_lt allowed.pages pages) _ within)

-- RAM that is handed in has the pages of the stream, else its header has a fault.
is_len : (found : Option ℕ) (len pages : ℕ) → found ≡ Some len → IfSome found (λ (n : ℕ). n ≡ 4096 * pages) → len ≡ 4096 * pages
is_len None len pages is has = cc
is_len (Some n) len pages is has = let same : n ≡ len = cc in sym same ∙ has

given_by : (same : Bool) (ram : RamTerms) (sizes bytes : List ℕ) (opening : Opening) (rest : List ℕ) (len : ℕ) → (len == 4096 * opening.pages) ≡ same → ram.len ≡ Some len → NoFault ram sizes bytes → Begins bytes opening rest → AreWithin ram.limits opening.pages opening.shapes
    → len ≡ 4096 * opening.pages
given_by true ram sizes bytes opening rest len so is quiet begins within = eq_of len (4096 * opening.pages) so
given_by false ram sizes bytes opening rest len so is quiet begins within =
    absurd (quiet ShapeMismatch _ (inl (record {
      opening = opening;
      more = rest;
      begins = begins;
      within = within;
      never = λ has. true≢false (sym (eq-eqb len (4096 * opening.pages) (is_len ram.len len opening.pages is has.1)) ∙ so);
      there = refl;
    })))

limits_if : (given : Bool) (terms : Terms) (bytes : List ℕ) → (terms_if given terms bytes).limits ≡ terms.limits
limits_if true terms bytes = refl
limits_if false terms bytes = refl

-- So the log has a place for each page.
library_places : (e : Expected) (pages : ℕ) → (length e.ram.content == 0) ≡ true → pages ≤ (limits_for e.flags).pages → pages ≤ (allowed_of e).pages → pages ≤ places_of e
library_places e pages none few allowed = let most : pages ≤ e.most_pages = rw none at allowed in rw none (omega (arith, few, most))

callers_places : (e : Expected) (pages : ℕ) → (length e.ram.content == 0) ≡ false → pages ≤ (limits_for e.flags).pages → length e.ram.content ≡ 4096 * pages → pages ≤ places_of e
callers_places e pages some few long = rw some (omega (arith, few, long))

places_by : (none : Bool) (e : Expected) (a : ArrivalSeen) (bytes : List ℕ) (opening : Opening) (rest : List ℕ) → (length e.ram.content == 0) ≡ none → awaited_ram a ≡ terms_of e → GoesOnWith bytes a → Begins bytes opening rest
    → AreWithin (limits_in e) opening.pages opening.shapes → opening.pages ≤ (allowed_of e).pages → opening.pages ≤ places_of e
places_by true e a bytes opening rest so ram goes begins within few = library_places e opening.pages so within.few_pages few
places_by false e a bytes opening rest so ram goes begins within few =
    let len : (awaited_ram a).len ≡ Some (length e.ram.content) = ap (λ (r : RamTerms). r.len) ram ∙ rw so refl in
    let limits : (awaited_ram a).limits ≡ limits_in e = ap (λ (r : RamTerms). r.limits) ram ∙ limits_if (not (length e.ram.content == 0)) (terms_in e) e.ram.content in
    let here : AreWithin (awaited_ram a).limits opening.pages opening.shapes = subst (λ (l : Limits). AreWithin l opening.pages opening.shapes) (sym limits) within in
    callers_places e opening.pages so within.few_pages (given_by (length e.ram.content == 4096 * opening.pages) (awaited_ram a) (awaited_sizes a) bytes opening rest (length e.ram.content) refl len goes.quiet begins here)

pub arrived_has_places : ArrivedHasPlaces
arrived_has_places e a m bytes more pages shapes admitted ram goes arrived =
    let opening = admitted.opening in
    let all = begins_longer bytes more opening admitted.rest admitted.begins in
    let stream : IsStream (bytes ++ more) (state_of m) = arrived.stream (bytes ++ more) goes.come in
    let same : opening.pages ≡ pages_of (state_of m) = same_pages bytes more opening admitted.rest (state_of m) admitted.begins stream in
    let sound : IsSound (state_of m) = stream.by.sound in
    let long : length m.memory.bytes ≡ 4096 * pages_of (state_of m) = sound.whole_pages in
    let few : opening.pages ≤ places_of e =
    places_by (length e.ram.content == 0) e a (bytes ++ more) opening _ refl ram goes all admitted.within (few_let_in (allowed_of e) _ opening.pages opening.shapes admitted.fits)
    in
    let enough : length m.memory.bytes ≤ 4096 * places_of e = omega (arith, long, same, few) in
    ap (has_more (places_of e)) arrived.ram_len ∙ few_tested (4096 * places_of e) (length m.memory.bytes) enough
