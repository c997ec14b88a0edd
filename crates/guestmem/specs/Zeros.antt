use Rattle.std.specs.Prelude.{ℕ, List, [], ◌∷◌, Bool, true, ◌==◌, ◌&&◌}

-- Whether all of the bytes are 0.
unfoldable pub are_zeros : List ℕ → Bool
are_zeros [] = true
are_zeros (byte ∷ bytes) = (byte == 0) && are_zeros bytes
