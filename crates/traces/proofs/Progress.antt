-- How far the lines of a text are read.
use Rattle.std.proofs.Common.{◌≡◌, ℕ, suc, ◌+◌, ◌<◌, ◌≤◌, List, [], ◌∷◌, ◌++◌, length, get_or, take, drop, Option, Some, None, refl, ap, sym, ◌∙◌, add-one, arith, length-drop}
use Rattle.std.proofs.Math.Seq.{take-length}
use Rattle.std.proofs.lemmas.List.{take_more}
use Rattle.std.proofs.Math.Seq.{drop-cons}
use Rattle.traces.specs.Numbers.{◌>>=◌}
use Rattle.traces.specs.Lines.{lines_of}
use Rattle.traces.specs.Reading.{Said, nothing, after_line, after_lines}

-- behind n of the lines the rest is left
pub record IsPlace (lines : List (List ℕ)) (n : ℕ) (rest : List (List ℕ)) : Type 0 where
  pub left : drop n lines ≡ rest
  pub within : n ≤ length lines

-- n of the lines say this, and the rest is left
pub record IsAt (lines : List (List ℕ)) (n : ℕ) (said : Said) (rest : List (List ℕ)) : Type 0 where
  pub done : after_lines nothing (take n lines) ≡ Some said
  pub place : IsPlace lines n rest

pub first_place : (lines : List (List ℕ)) → IsPlace lines 0 lines
first_place lines = record { left = refl; within = omega arith }

pub at_start : (lines : List (List ℕ)) (said : Said) → said ≡ nothing → IsAt lines 0 said lines
unfolding after_lines
at_start lines said e = record { done = ap (λ (s : Said). Some s) (sym e); place = first_place lines }

no_lines : (text : List ℕ) → length text ≡ 0 → lines_of text ≡ []
unfolding lines_of
no_lines [] h = refl
no_lines (c ∷ text) h = absurd (omega arith)

whole : (o : Option Said) → (o >>= λ more. Some more) ≡ o
whole None = refl
whole (Some said) = refl

one_more : (said : Said) (lines : List (List ℕ)) (line : List ℕ) → after_lines said (lines ++ line ∷ []) ≡ (after_lines said lines >>= λ more. after_line more line)
unfolding after_lines
one_more said [] line = whole (after_line said line)
one_more said (first ∷ lines) line = elim (after_line said first) as (λ (o : Option Said). (o >>= λ more. after_lines more (lines ++ line ∷ [])) ≡ ((o >>= λ more. after_lines more lines) >>= λ more. after_line more line)) [
  | None ↦ refl
  | Some more ↦ one_more more lines line
]

pub parts : {lines : List (List ℕ)} {n : ℕ} {rest : List (List ℕ)} (line : List ℕ) (left : List (List ℕ)) → IsPlace lines n rest → rest ≡ line ∷ left
    → (n < length lines) × (take (n + 1) lines ≡ take n lines ++ line ∷ []) × (drop (n + 1) lines ≡ left)
parts {lines} {n} line left at is =
    let e : drop n lines ≡ line ∷ left = at.left ∙ is in
    let count : length (drop n lines) ≡ suc (length left) = ap length e in
    let short : n < length lines = omega (arith, count, length-drop n lines) in
    let cons : drop n lines ≡ get_or lines n [] ∷ drop (suc n) lines = drop-cons lines n [] short in
    let here : get_or lines n [] ≡ line = cc in
    let there : drop (suc n) lines ≡ left = cc in
    (short, take_more lines n [] short ∙ ap (λ (x : List ℕ). take n lines ++ x ∷ []) here, rw add-one there)

pub next_place : {lines : List (List ℕ)} {n : ℕ} {rest : List (List ℕ)} (line : List ℕ) (left : List (List ℕ)) → IsPlace lines n rest → rest ≡ line ∷ left → IsPlace lines (n + 1) left
next_place line left at is = let p = parts line left at is in record { left = p.2; within = omega (arith, p.0) }

taken : {lines : List (List ℕ)} {n : ℕ} {said : Said} {rest : List (List ℕ)} (line : List ℕ) (left : List (List ℕ)) → IsAt lines n said rest → rest ≡ line ∷ left
    → after_lines nothing (take (n + 1) lines) ≡ after_line said line
taken {lines} {n} {said} line left at is = let p = parts line left at.place is in rw (p.1, one_more nothing (take n lines) line, at.done) refl

pub next_line : {lines : List (List ℕ)} {n : ℕ} {said : Said} {rest : List (List ℕ)} (line : List ℕ) (left : List (List ℕ)) (more : Said) → IsAt lines n said rest → rest ≡ line ∷ left
    → after_line said line ≡ Some more → IsAt lines (n + 1) more left
next_line line left more at is next = record { done = taken line left at is ∙ next; place = next_place line left at.place is }

pub bad_line : {lines : List (List ℕ)} {n : ℕ} {said : Said} {rest : List (List ℕ)} (line : List ℕ) (left : List (List ℕ)) → IsAt lines n said rest → rest ≡ line ∷ left
    → after_line said line ≡ None → (n < length lines) × (after_lines nothing (take (n + 1) lines) ≡ None)
bad_line line left at is next = let p = parts line left at.place is in (p.0, taken line left at is ∙ next)

pub last_place : {lines : List (List ℕ)} {n : ℕ} (rest : List ℕ) → IsPlace lines n (lines_of rest) → length rest ≡ 0 → (n ≡ length lines) × (take n lines ≡ lines)
last_place {lines} {n} rest at is =
    let none : length (drop n lines) ≡ 0 = ap length (at.left ∙ no_lines rest is) in
    let all : n ≡ length lines = omega (arith, none, length-drop n lines, at.within) in
    (all, rw (all, take-length) refl)

pub all_lines : {lines : List (List ℕ)} {n : ℕ} {said : Said} (rest : List ℕ) → IsAt lines n said (lines_of rest) → length rest ≡ 0 → (n ≡ length lines) × (after_lines nothing lines ≡ Some said)
all_lines rest at is = let last = last_place rest at.place is in (last.0, rw last.1 at at.done)
