-- The first word of a line.
use Rattle.std.proofs.Common.{◌≡◌, ℕ, zero, suc, ◌+◌, ◌-◌, ◌<◌, ◌≤◌, true, false, List, [], ◌∷◌, length, get_or, take, drop, position, Some, None, cond, refl, sym, add-one, arith}
use Rattle.std.proofs.lemmas.List.Quantifiers.{position-Some}
use Rattle.std.proofs.Math.Seq.{take-length}
use Rattle.std.proofs.lemmas.List.{length-drop}
use borrow.Author.Tests.{ltb-false}
use Rattle.std.specs.List.{position_or_len, slice_split, onto_first}
use Rattle.std.specs.Prelude.{not}
use Rattle.std.proofs.lemmas.List.Splits.{length-slice_split}
use Rattle.traces.specs.Line.{is_space, words_say}
use Rattle.traces.proofs.Cut.{no_place}

at_place : (line : List ℕ) (at : ℕ) → at < length line → is_space (get_or line at 0) ≡ true → ((k : ℕ) → k < at → is_space (get_or line k 0) ≡ false)
    → slice_split is_space line ≡ take at line ∷ slice_split is_space (drop (suc at) line)
at_place [] at h here before = absurd (omega arith)
at_place (c ∷ line) zero h here before = rw here refl
at_place (c ∷ line) (suc at) h here before =
    let first : is_space c ≡ false = before 0 (omega arith) in
    let more = at_place line at (omega arith) here (λ k j. before (suc k) (omega arith)) in
    rw (first, more) refl

pub split_at : (line : List ℕ) (at : ℕ) → position is_space line ≡ Some at
    → slice_split is_space line ≡ take at line ∷ slice_split is_space (take (length line - (at + 1)) (drop (at + 1) line))
split_at line at h =
    let facts = position-Some is_space line at 0 h in
    let count : length line - (at + 1) ≡ length (drop (at + 1) line) = sym (length-drop (at + 1) line) in
    rw (count, take-length, add-one) (at_place line at facts.0 facts.1 facts.2)

one_word : (line : List ℕ) → length line ≤ position_or_len is_space line → slice_split is_space line ≡ line ∷ []
one_word [] h = refl
one_word (c ∷ line) h =
    let more : length line ≤ position_or_len is_space line → slice_split is_space line ≡ line ∷ [] = one_word line in
    elim (is_space c) as (λ b. suc (length line) ≤ cond (not b) (1 + position_or_len is_space line) 0
    → cond b ([] ∷ slice_split is_space line) (onto_first c (slice_split is_space line)) ≡ (c ∷ line) ∷ []) [
      | true ↦ λ e. absurd (omega arith)
      | false ↦ λ e. rw (more (omega arith)) refl
    ] h

pub not_split : (line : List ℕ) → position is_space line ≡ None → slice_split is_space line ≡ line ∷ []
not_split line h = one_word line (ltb-false _ _ (no_place _ _ h))

-- five words and more behind them are no line
pub too_many : (line r₁ r₂ r₃ r₄ r₅ v a b c d : List ℕ) → slice_split is_space line ≡ v ∷ slice_split is_space r₁ → slice_split is_space r₁ ≡ a ∷ slice_split is_space r₂
    → slice_split is_space r₂ ≡ b ∷ slice_split is_space r₃ → slice_split is_space r₃ ≡ c ∷ slice_split is_space r₄ → slice_split is_space r₄ ≡ d ∷ slice_split is_space r₅
    → None ≡ words_say (slice_split is_space line)
too_many line r₁ r₂ r₃ r₄ r₅ v a b c d e₁ e₂ e₃ e₄ e₅ =
    let some : 0 < length (slice_split is_space r₅) = omega (arith, length-slice_split is_space r₅) in
    let words : slice_split is_space line ≡ v ∷ a ∷ b ∷ c ∷ d ∷ slice_split is_space r₅ = cc in
    rw words (sym (none_of (slice_split is_space r₅) some))
  where
    none_of : (more : List (List ℕ)) → 0 < length more → words_say (v ∷ a ∷ b ∷ c ∷ d ∷ more) ≡ None
    none_of [] h = absurd (omega arith)
    none_of (w ∷ more) h = refl
