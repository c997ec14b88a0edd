-- How items that follow one another are decoded, given how one is decoded: the items, and the bytes after them.
use Rattle.std.specs.Prelude.{ℕ, zero, suc, List, [], ◌∷◌, ◌++◌, Option, Some, None, option_and_then}

-- These items before those that were decoded.
abbrev pub in_front : {A : Type 0} → List A → Option (List A × List ℕ) → Option (List A × List ℕ)
in_front xs None = None
in_front xs (Some others) = Some (xs ++ others.0, others.1)

-- The first n items, and the bytes after them.
unfoldable pub several : {A : Type 0} → (List ℕ → Option (A × List ℕ)) → ℕ → List ℕ → Option (List A × List ℕ)
several read zero bytes = Some ([], bytes)
several read (suc n) bytes = option_and_then (λ first. in_front (first.0 ∷ []) (several read n first.1)) (read bytes)
