-- The first `begin`, line by line.
use Rattle.std.proofs.Common.{◌≡◌, ℕ, ◌+◌, ◌<◌, ◌≤◌, ◌⊎◌, ◌==◌, nat_lt, ◌&&◌, Bool, true, false, if◌then◌else◌, cond, List, [], ◌∷◌, ◌++◌, length, take, Some, None, inl, inr, refl, arith, rules}
use Rattle.std.proofs.lemmas.List.{length-append, length-take}
use Rattle.std.proofs.lemmas.List.Folds.{position_or_len_push}
use Rattle.std.proofs.lemmas.List.Sums.{prefix_len-le-length}
use borrow.Author.Tests.{ltb-true, ltb-false}
use Rattle.std.specs.List.{position_or_len}
use Rattle.traces.specs.Trace.{is_begin, number_of_place, begin_line_of}
use Rattle.traces.proofs.Progress.{IsPlace, parts}

-- the number of the first place of so many
abbrev numbered : ℕ → ℕ → ℕ
numbered first count = number_of_place (cond (nat_lt first count) (Some first) None)

lt_or_is : (a b : ℕ) → a ≤ b → (a < b) ⊎ (a ≡ b)
lt_or_is a b h = elim (nat_lt a b) as (λ (t : Bool). nat_lt a b ≡ t → (a < b) ⊎ (a ≡ b)) [
  | true ↦ λ e. inl (ltb-true _ _ e)
  | false ↦ λ e. let le : b ≤ a = ltb-false _ _ e in inr (omega (arith, le))
] refl

place_after : (first count : ℕ) (b : Bool) → (first < count) ⊎ (first ≡ count)
    → numbered (cond (first == count) (count + cond b 0 1) first) (count + 1) ≡ (if numbered first count == 0 && b then count + 1 else numbered first count)
place_after first count b (inl lt) =
    let below : nat_lt first count ≡ true = search rules in
    let within : nat_lt first (count + 1) ≡ true = search rules in
    let other : (first == count) ≡ false = search rules in
    let some : (first + 1 == 0) ≡ false = search rules in
    rw (other, below, within, some) refl
place_after first count true (inr is) =
    let same : (count == count) ≡ true = search rules in
    let past : nat_lt count count ≡ false = search rules in
    let here : count + 0 ≡ count = omega arith in
    let within : nat_lt count (count + 1) ≡ true = search rules in
    rw (is, same, past, here, within) refl
place_after first count false (inr is) =
    let same : (count == count) ≡ true = search rules in
    let past : nat_lt count count ≡ false = search rules in
    let next_past : nat_lt (count + 1) (count + 1) ≡ false = search rules in
    rw (is, same, past, next_past) refl

one_line_more : (lines : List (List ℕ)) (line : List ℕ) → begin_line_of (lines ++ line ∷ []) ≡ (if begin_line_of lines == 0 && is_begin line then length lines + 1 else begin_line_of lines)
one_line_more lines line =
    let few : position_or_len is_begin lines ≤ length lines = prefix_len-le-length _ lines in
    let pushed = position_or_len_push is_begin lines line in
    let count : length (lines ++ line ∷ []) ≡ length lines + 1 = length-append lines (line ∷ []) in
    rw (pushed, count) (place_after (position_or_len is_begin lines) (length lines) (is_begin line) (lt_or_is _ _ few))

goes_on : (before n so_far more : ℕ) (b : Bool) (size after : ℕ) → so_far ≡ before → size ≡ n → more ≡ (if so_far == 0 && b then n + 1 else so_far) → after ≡ (if before == 0 && b then size + 1 else before) → more ≡ after
goes_on before n so_far more b size after here count next is = cc

pub next_begin : {lines : List (List ℕ)} {n : ℕ} {rest : List (List ℕ)} (line : List ℕ) (left : List (List ℕ)) (so_far more : ℕ) → IsPlace lines n rest → rest ≡ line ∷ left
    → so_far ≡ begin_line_of (take n lines) → more ≡ (if so_far == 0 && is_begin line then n + 1 else so_far) → more ≡ begin_line_of (take (n + 1) lines)
next_begin {lines} {n} line left so_far more at is here next =
    let p = parts line left at is in
    let count : length (take n lines) ≡ n = omega (arith, length-take n lines, p.0) in
    goes_on _ n so_far more (is_begin line) _ _ here count next (rw p.1 (one_line_more (take n lines) line))
