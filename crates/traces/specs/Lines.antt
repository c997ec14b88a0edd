-- The lines of a text.
use Rattle.std.specs.Prelude.{ℕ, Bool, ◌==◌, if◌then◌else◌, List, [], ◌∷◌}

-- LF, which ends a line
abbrev pub is_newline : ℕ → Bool
is_newline c = c == 10

-- a byte before the first of some lines, or alone in a line where there is none
abbrev pub onto_first : ℕ → List (List ℕ) → List (List ℕ)
onto_first c [] = (c ∷ []) ∷ []
onto_first c (line ∷ lines) = (c ∷ line) ∷ lines

-- Each line of a text, without its LF, which the last may lack. If nothing follows the last LF, there is no line after it.
unfoldable pub lines_of : List ℕ → List (List ℕ)
lines_of [] = []
lines_of (c ∷ text) = if is_newline c then [] ∷ lines_of text else onto_first c (lines_of text)
