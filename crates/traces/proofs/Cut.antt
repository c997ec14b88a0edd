-- The first line of a text.
use Rattle.std.proofs.Common.{◌≡◌, ℕ, zero, suc, ◌+◌, ◌-◌, ◌<◌, ◌≤◌, Bool, true, false, List, [], ◌∷◌, length, get_or, take, drop, position, Some, None, cond, refl, sym, add-one, arith}
use Rattle.std.proofs.lemmas.List.Quantifiers.{position-Some}
use Rattle.std.proofs.Math.Seq.{take-length}
use Rattle.std.proofs.lemmas.List.{length-drop}
use borrow.Author.Tests.{ltb-false}
use Rattle.std.specs.List.{position_or_len}
use Rattle.std.specs.Prelude.{not}
use Rattle.traces.specs.Lines.{is_newline, onto_first, lines_of}

at_place : (text : List ℕ) (at : ℕ) → at < length text → is_newline (get_or text at 0) ≡ true → ((k : ℕ) → k < at → is_newline (get_or text k 0) ≡ false)
    → lines_of text ≡ take at text ∷ lines_of (drop (suc at) text)
unfolding lines_of
at_place [] at h here before = absurd (omega arith)
at_place (c ∷ text) zero h here before = rw here refl
at_place (c ∷ text) (suc at) h here before =
    let first : is_newline c ≡ false = before 0 (omega arith) in
    let more = at_place text at (omega arith) here (λ k j. before (suc k) (omega arith)) in
    rw (first, more) refl

pub cut_at : (text : List ℕ) (at : ℕ) → position is_newline text ≡ Some at
    → lines_of text ≡ take at text ∷ lines_of (take (length text - (at + 1)) (drop (at + 1) text))
cut_at text at h =
    let facts = position-Some is_newline text at 0 h in
    let count : length text - (at + 1) ≡ length (drop (at + 1) text) = sym (length-drop (at + 1) text) in
    rw (count, take-length, add-one) (at_place text at facts.0 facts.1 facts.2)

pub no_place : (b : Bool) (n : ℕ) → cond b (Some n) None ≡ None → b ≡ false
no_place true n h = cc
no_place false n h = refl

onto : (c : ℕ) (text : List ℕ) → length text ≤ position_or_len is_newline text → onto_first c (lines_of text) ≡ (c ∷ text) ∷ []
unfolding lines_of
onto c [] h = refl
onto c (d ∷ text) h =
    let more : length text ≤ position_or_len is_newline text → onto_first d (lines_of text) ≡ (d ∷ text) ∷ [] = onto d text in
    elim (is_newline d) as (λ b. suc (length text) ≤ cond (not b) (1 + position_or_len is_newline text) 0
    → onto_first c (cond b ([] ∷ lines_of text) (onto_first d (lines_of text))) ≡ (c ∷ d ∷ text) ∷ []) [
      | true ↦ λ e. absurd (omega arith)
      | false ↦ λ e. rw (more (omega arith)) refl
    ] h

pub uncut : (text : List ℕ) → position is_newline text ≡ None → 0 < length text → lines_of text ≡ text ∷ lines_of []
unfolding lines_of
uncut [] h k = absurd (omega arith)
uncut (c ∷ text) h k =
    let far : length (c ∷ text) ≤ position_or_len is_newline (c ∷ text) = ltb-false _ _ (no_place _ _ h) in
    elim (is_newline c) as (λ b. suc (length text) ≤ cond (not b) (1 + position_or_len is_newline text) 0
    → cond b ([] ∷ lines_of text) (onto_first c (lines_of text)) ≡ (c ∷ text) ∷ []) [
      | true ↦ λ e. absurd (omega arith)
      | false ↦ λ e. onto c text (omega arith)
    ] far
