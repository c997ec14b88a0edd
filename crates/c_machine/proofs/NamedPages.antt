-- The pages that a caller names.
use Rattle.std.proofs.Common.{◌≡◌, ◌≢◌, ◌≤◌, ◌<◌, ◌*◌, ◌+◌, ◌^◌, ◌==◌, ◌&&◌, ◌||◌, ◌++◌, ℕ, Bool, true, false, nat_lt, length, drop, get_or, take, List, [], ◌∷◌, refl, sym, ap, ◌∙◌, subst, arith}
use Prim.Native.Nat.{zero, suc}
use Rattle.std.specs.Prelude.{Option, Some, None, not, slice_set, if◌then◌else◌}
use Rattle.std.proofs.lemmas.Bool.Decides.{nat_tests}
use Rattle.std.proofs.lemmas.List.{append-nil, append_assoc, drop_all, drop_more, get_or_at, length-map, length-take-le, map-append, set_at, take_all, take_more}
use Rattle.c_machine.specs.Named.{AreBelowTop, are_pages, has_words, marked, named_pages, needs_list, numbers_below, of_bitmap, pages_refusal, shifted, span_of}
use Rattle.c_machine.specs.declared.pages.Pages.{Pages}
use Rattle.c_machine.proofs.Imaging.{tested_from}
use Rattle.c_machine.proofs.Marking.{all_below, marked_below}
use Rattle.c_machine.proofs.PageNumbers.{both_left, both_right, is_page}

-- What is not refused: the bitmap, if there is one, covers pages that are there, and has a bit for each, and the list names such.
pub record AreThere (p : Pages) (count : ℕ) : Type 0 where
  pub bits : has_words p ≡ true → span_of p count ≤ 64 * length p.words.now
  pub within : has_words p ≡ true → p.first + span_of p count ≤ count
  pub listed : are_pages count p.list.now ≡ true

by_words : {A : Type 0} (words small past : Bool) (a b c : A) → ◌≡◌ {A = Option A} (if words && small then Some a else if words && past then Some b else Some c) None → ⊥
by_words true true past a b c is = cc
by_words true false true a b c is = cc
by_words true false false a b c is = cc
by_words false small past a b c is = cc

three_tests : {A : Type 0} (words small past are : Bool) (a b c : A) → ◌≡◌ {A = Option A} (if words && small then Some a else if words && past then Some b else if not are then Some c else None) None
    → (words ≡ true → small ≡ false) × (words ≡ true → past ≡ false) × (are ≡ true)
three_tests words small past false a b c is = absurd (by_words words small past _ _ _ is)
three_tests false small past true a b c is = (λ w. absurd cc, λ w. absurd cc, refl)
three_tests true true past true a b c is = absurd cc
three_tests true false true true a b c is = absurd cc
three_tests true false false true a b c is = (λ w. refl, λ w. refl, refl)

pub there : (p : Pages) (count : ℕ) → pages_refusal p count ≡ None → AreThere p count
there p count none =
    let tests = three_tests (has_words p) (nat_lt (64 * length p.words.now) (span_of p count)) (nat_lt count (p.first + span_of p count)) (are_pages count p.list.now) _ _ _ none in
    record {
      bits = λ w. tested_from (64 * length p.words.now) (span_of p count) (tests.0 w);
      within = λ w. tested_from count (p.first + span_of p count) (tests.1 w);
      listed = tests.2;
    }

-- Numbers that are shifted.
less : (a b : ℕ) → a < b → nat_lt a b ≡ true
less a b is = grind (arith, nat_tests)

both : (a b : Bool) → a ≡ true → b ≡ true → (a && b) ≡ true
both a b is other = rw (is, other) refl

shifted_below : (first span count : ℕ) (numbers : List ℕ) → first + span ≤ count → are_pages span numbers ≡ true → are_pages count (shifted first numbers) ≡ true
shifted_below first span count [] within are = refl
shifted_below first span count (n ∷ numbers) within are =
    let below : n < span = is_page n span (both_left (nat_lt n span) (are_pages span numbers) are) in
    both (nat_lt (first + n) count) (are_pages count (shifted first numbers)) (less (first + n) count (omega (arith, below, within)))
    (shifted_below first span count numbers within (both_right (nat_lt n span) (are_pages span numbers) are))

joined_below : (count : ℕ) (some others : List ℕ) → are_pages count some ≡ true → are_pages count others ≡ true → are_pages count (some ++ others) ≡ true
joined_below count [] others are also = also
joined_below count (n ∷ some) others are also =
    both (nat_lt n count) (are_pages count (some ++ others)) (both_left (nat_lt n count) (are_pages count some) are) (joined_below count some others (both_right (nat_lt n count) (are_pages count some) are) also)

within_bitmap : (words : Bool) (p : Pages) (count : ℕ) → has_words p ≡ words → AreThere p count → are_pages count (shifted p.first (marked p.words.now (if words then span_of p count else 0))) ≡ true
within_bitmap true p count is are = shifted_below p.first (span_of p count) count (marked p.words.now (span_of p count)) (are.within is) (marked_below p.words.now (span_of p count))
within_bitmap false p count is are = refl

of_named : (none : Bool) (p : Pages) (count : ℕ) → AreThere p count
    → are_pages count (if none then shifted p.first (marked p.words.now (if has_words p then span_of p count else 0)) ++ p.list.now else numbers_below count) ≡ true
of_named true p count are = joined_below count (shifted p.first (marked p.words.now (if has_words p then span_of p count else 0))) p.list.now (within_bitmap (has_words p) p count refl are) are.listed
of_named false p count are = all_below count

-- All pages that are named are there.
pub named_are : (p : Pages) (count : ℕ) → pages_refusal p count ≡ None → are_pages count (named_pages p count) ≡ true
named_are p count none = of_named (p.all == 0) p count (there p count none)

-- Where no list is needed, they are those of the caller's list.
listed_by : (none words : Bool) (p : Pages) (count : ℕ) → (not none) ≡ false → words ≡ false
    → (if none then shifted p.first (marked p.words.now (if words then span_of p count else 0)) ++ p.list.now else numbers_below count) ≡ p.list.now
listed_by false words p count all none = absurd cc
listed_by true true p count all none = absurd cc
listed_by true false p count all none = refl

no_or : (a b : Bool) → (a || b) ≡ false → (a ≡ false) × (b ≡ false)
no_or true b is = absurd cc
no_or false b is = (refl, is)

pub listed : (p : Pages) (count : ℕ) → needs_list p ≡ false → named_pages p count ≡ p.list.now
listed p count none =
    let parts = no_or (not (p.all == 0)) (has_words p) none in
    listed_by (p.all == 0) (has_words p) p count parts.0 parts.1

-- A number of a page plus the first is a 32-bit number.
pub below_top : (first span : ℕ) (numbers : List ℕ) → first + span ≤ 4294967295 → are_pages span numbers ≡ true → AreBelowTop first numbers
below_top first span [] within are k d less = absurd (omega (arith, less))
below_top first span (n ∷ numbers) within are zero d less = let below : n < span = is_page n span (both_left (nat_lt n span) (are_pages span numbers) are) in omega (arith, below, within)
below_top first span (n ∷ numbers) within are (suc k) d less = below_top first span numbers within (both_right (nat_lt n span) (are_pages span numbers) are) k d (omega (arith, less))

-- One number after another is shifted.
now_at : (first : ℕ) (old now : List ℕ) (i d : ℕ) → i < length old → now ≡ shifted first (take i old) ++ drop i old → get_or now i d ≡ get_or old i d
now_at first old now i d below so_far =
    let front = shifted first (take i old) in
    let long : length front ≡ i = length-map (take i old) (λ (n : ℕ). first + n) ∙ length-take-le i old (omega (arith, below)) in
    let here : drop i old ≡ get_or old i d ∷ drop (i + 1) old = drop_more old i d below in
    ap (λ (l : List ℕ). get_or l i d) (so_far ∙ ap (λ (l : List ℕ). front ++ l) here) ∙ get_or_at front (get_or old i d) (drop (i + 1) old) d i long

pub fits : (first : ℕ) (old now : List ℕ) (i d : ℕ) → AreBelowTop first old → i < length old → now ≡ shifted first (take i old) ++ drop i old → get_or now i d + first < 2 ^ 32
fits first old now i d top below so_far =
    let same : get_or now i d ≡ get_or old i d = now_at first old now i d below so_far in
    let less : first + get_or old i d < 2 ^ 32 = top i d below in
    omega (arith, same, less)

pub shifts_more : (first : ℕ) (old now : List ℕ) (i d : ℕ) → i < length old → now ≡ shifted first (take i old) ++ drop i old → slice_set now i (get_or now i d + first) ≡ shifted first (take (i + 1) old) ++ drop (i + 1) old
shifts_more first old now i d below so_far =
    let front = shifted first (take i old) in
    let rest = drop (i + 1) old in
    let x = get_or old i d in
    let long : length front ≡ i = length-map (take i old) (λ (n : ℕ). first + n) ∙ length-take-le i old (omega (arith, below)) in
    let here : drop i old ≡ x ∷ rest = drop_more old i d below in
    let value : get_or now i d + first ≡ first + x = (let same : get_or now i d ≡ x = now_at first old now i d below so_far in omega (arith, same)) in
    let more : shifted first (take (i + 1) old) ≡ front ++ (first + x) ∷ [] = ap (shifted first) (take_more old i d below) ∙ map-append (λ (n : ℕ). first + n) (take i old) (x ∷ []) in
    ap (slice_set now i) value
    ∙ ap (λ (l : List ℕ). slice_set l i (first + x)) (so_far ∙ ap (λ (l : List ℕ). front ++ l) here)
    ∙ set_at front x rest (first + x) i long
    ∙ sym (ap (λ (l : List ℕ). l ++ rest) more ∙ append_assoc front ((first + x) ∷ []) rest)

pub all_shifted : (first : ℕ) (old now : List ℕ) (i : ℕ) → length old ≤ i → now ≡ shifted first (take i old) ++ drop i old → now ≡ shifted first old
all_shifted first old now i past so_far = so_far ∙ rw (take_all i old past, drop_all i old past) (append-nil (shifted first old))

-- The numbers that are collected.
pub of_all : (p : Pages) (count : ℕ) (numbers : List ℕ) → p.all ≢ 0 → numbers ≡ numbers_below count → numbers ≡ named_pages p count
of_all p count numbers some are = let no : (p.all == 0) ≡ false = grind (arith, nat_tests) in rw no are

pub of_some : (p : Pages) (count : ℕ) (numbers bitmap : List ℕ) → p.all ≡ 0 → bitmap ≡ of_bitmap p count → numbers ≡ bitmap ++ p.list.now → numbers ≡ named_pages p count
of_some p count numbers bitmap none are joined =
    let all : (p.all == 0) ≡ true = rw none refl in
    rw all (joined ∙ ap (λ (l : List ℕ). l ++ p.list.now) are)

pub no_bits : (p : Pages) (count : ℕ) (numbers : List ℕ) → (length p.words.now == 0) ≡ true → numbers ≡ [] → numbers ≡ of_bitmap p count
no_bits p count numbers none empty = rw none empty

pub few : (p : Pages) (count span : ℕ) → count ≤ 4294967295 → pages_refusal p count ≡ None → (length p.words.now == 0) ≡ false → span ≡ span_of p count → span ≤ 4294967295
few p count span small fit some is = let less : p.first + span_of p count ≤ count = (there p count fit).within (rw some refl) in omega (arith, small, less, is)

pub room : (p : Pages) (count span : ℕ) → pages_refusal p count ≡ None → (length p.words.now == 0) ≡ false → span ≡ span_of p count → span ≤ 64 * length p.words.now
room p count span fit some is = let less : span_of p count ≤ 64 * length p.words.now = (there p count fit).bits (rw some refl) in omega (arith, less, is)

pub shiftable : (p : Pages) (count span : ℕ) (numbers : List ℕ) → count ≤ 4294967295 → pages_refusal p count ≡ None → (length p.words.now == 0) ≡ false → span ≡ span_of p count → numbers ≡ marked p.words.now span → AreBelowTop p.first numbers
shiftable p count span numbers small fit some is are =
    let less : p.first + span_of p count ≤ count = (there p count fit).within (rw some refl) in
    subst (AreBelowTop p.first) (sym are) (below_top p.first span (marked p.words.now span) (omega (arith, less, small, is)) (marked_below p.words.now span))

pub bits : (p : Pages) (count span : ℕ) (numbers found : List ℕ) → (length p.words.now == 0) ≡ false → span ≡ span_of p count → found ≡ marked p.words.now span → numbers ≡ shifted p.first found → numbers ≡ of_bitmap p count
bits p count span numbers found some is are shifts = shifts ∙ ap (shifted p.first) (are ∙ ap (marked p.words.now) is) ∙ rw some refl
