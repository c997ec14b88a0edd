-- The pages that are marked in a bitmap.
use Rattle.std.proofs.Common.{◌≡◌, ◌≤◌, ◌<◌, ◌*◌, ◌+◌, ◌-◌, ◌/◌, ◌%◌, ◌^◌, ◌++◌, ℕ, Bool, true, false, get_or, nat_lt, length, take, List, [], ◌∷◌, refl, sym, ap, ◌∙◌, subst, arith}
use Prim.Native.Nat.{zero, suc}
use Rattle.std.specs.Prelude.{cond, min, slice_index}
use Rattle.std.specs.List.{filter, range_with_len}
use Rattle.std.proofs.lemmas.Bool.Decides.{nat_tests}
use Rattle.std.proofs.lemmas.List.{append-nil, get_or-take, length-append, map-id}
use Rattle.std.proofs.lemmas.List.FromFn.{filter_of_map_range_with_len_more, map-range_with_len_more}
use Rattle.std.proofs.Math.Nat.{zero-div}
use Rattle.dirtylog.specs.Words.{AreZeroBetween}
use Rattle.c_machine.specs.Named.{are_pages, is_marked, marked, numbers_below}

-- One number more.
abbrev alike : ℕ → ℕ
alike n = n

pub marked_more : (words : List ℕ) (n : ℕ) → marked words (n + 1) ≡ marked words n ++ cond (is_marked words n) (n ∷ []) []
marked_more words n =
    ap (filter (is_marked words)) (sym (map-id (numbers_below (n + 1))))
    ∙ filter_of_map_range_with_len_more (is_marked words) alike 0 n n (omega arith)
    ∙ ap (λ (l : List ℕ). filter (is_marked words) l ++ cond (is_marked words n) (n ∷ []) []) (map-id (numbers_below n))

one_at_most : (b : Bool) (n : ℕ) → length (cond b (n ∷ []) []) ≤ 1
one_at_most true n = omega arith
one_at_most false n = omega arith

pub marked_few : (words : List ℕ) (n : ℕ) → length (marked words n) ≤ n
marked_few words zero = omega arith
marked_few words (suc n) =
    let more : length (marked words (n + 1)) ≡ length (marked words n) + length (cond (is_marked words n) (n ∷ []) []) = ap length (marked_more words n) ∙ length-append (marked words n) (cond (is_marked words n) (n ∷ []) []) in
    let few : length (marked words (n + 1)) ≤ n + 1 = omega (arith, more, marked_few words n, one_at_most (is_marked words n) n) in
    let next : suc n ≡ n + 1 = omega arith in
    subst (λ (k : ℕ). length (marked words k) ≤ k) (sym next) few

pub numbers_more : (n : ℕ) → numbers_below (n + 1) ≡ numbers_below n ++ n ∷ []
numbers_more n = sym (map-id (numbers_below (n + 1))) ∙ map-range_with_len_more alike 0 n n (omega arith) ∙ ap (λ (l : List ℕ). l ++ n ∷ []) (map-id (numbers_below n))

-- Where none is marked from one number to another, the list stays.
pub none_more : (words : List ℕ) (from k : ℕ) → ((j : ℕ) → from ≤ j → j < from + k → is_marked words j ≡ false) → marked words (from + k) ≡ marked words from
none_more words from zero none = ap (marked words) (omega arith)
none_more words from (suc k) none =
    let last : is_marked words (from + k) ≡ false = none (from + k) (omega arith) (omega arith) in
    subst (λ (n : ℕ). marked words n ≡ marked words from) (omega arith)
    (marked_more words (from + k) ∙ rw (last, none_more words from k (λ j low high. none j low (omega (arith, high)))) (append-nil (marked words from)))

pub none_between : (words : List ℕ) (from until : ℕ) → from ≤ until → ((j : ℕ) → from ≤ j → j < until → is_marked words j ≡ false) → marked words until ≡ marked words from
none_between words from until order none =
    subst (λ (n : ℕ). marked words n ≡ marked words from) (omega (arith, order)) (none_more words from (until - from) (λ j low high. none j low (omega (arith, high, order))))

-- A word of zeros has no bit.
no_bit : (words : List ℕ) (at j : ℕ) → slice_index words at ≡ 0 → j / 64 ≡ at → is_marked words j ≡ false
no_bit words at j zero_word there = rw (there, zero_word, zero-div (2 ^ (j % 64))) refl

-- Words of zeros are passed, of those that cover all numbers.
pub words_passed : (words : List ℕ) (count cut from to : ℕ) → count ≤ 64 * cut → from ≤ to → AreZeroBetween (take cut words) from to → marked words (min (64 * to) count) ≡ marked words (min (64 * from) count)
words_passed words count cut from to room order zeros =
    none_between words (min (64 * from) count) (min (64 * to) count) (omega (arith, order)) (λ j low high.
    let inside : j / 64 < cut = omega (arith, high, room) in
    let zero_word : get_or words (j / 64) 0 ≡ 0 = sym (get_or-take cut words (j / 64) 0 inside) ∙ zeros (j / 64) (omega (arith, low, high)) (omega (arith, high)) in
    no_bit words (j / 64) j zero_word refl)

-- All that is marked, or any number below the count, is a page.
below_by : (b : Bool) (p : ℕ → Bool) (count a n : ℕ) → p a ≡ b → a < count → are_pages count (filter p (range_with_len (a + 1) n)) ≡ true → are_pages count (cond b (a ∷ filter p (range_with_len (a + 1) n)) (filter p (range_with_len (a + 1) n))) ≡ true
below_by true p count a n is below rest = let here : nat_lt a count ≡ true = grind (arith, nat_tests) in rw (here, rest) refl
below_by false p count a n is below rest = rest

filtered_below : (p : ℕ → Bool) (count a n : ℕ) → a + n ≤ count → are_pages count (filter p (range_with_len a n)) ≡ true
filtered_below p count a zero within = refl
filtered_below p count a (suc n) within = below_by (p a) p count a n refl (omega (arith, within)) (filtered_below p count (a + 1) n (omega (arith, within)))

range_below : (count a n : ℕ) → a + n ≤ count → are_pages count (range_with_len a n) ≡ true
range_below count a zero within = refl
range_below count a (suc n) within = let here : nat_lt a count ≡ true = grind (arith, nat_tests) in rw (here, range_below count (a + 1) n (omega (arith, within))) refl

pub marked_below : (words : List ℕ) (count : ℕ) → are_pages count (marked words count) ≡ true
marked_below words count = filtered_below (is_marked words) count 0 count (omega arith)

pub all_below : (count : ℕ) → are_pages count (numbers_below count) ≡ true
all_below count = range_below count 0 count (omega arith)

pub marked_yes : (words : List ℕ) (n : ℕ) → is_marked words n ≡ true → marked words (n + 1) ≡ marked words n ++ n ∷ []
marked_yes words n is = marked_more words n ∙ rw is refl

pub marked_no : (words : List ℕ) (n : ℕ) → is_marked words n ≡ false → marked words (n + 1) ≡ marked words n
marked_no words n is = marked_more words n ∙ rw is (append-nil (marked words n))
