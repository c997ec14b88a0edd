-- The bytes of sectors.
use Prim.Native.Nat.{ℕ, zero, suc}
use Rattle.std.specs.Prelude.{List, [], ◌∷◌, take, drop}
use Rattle.std.specs.List.{concat}

-- The sectors, one after another.
abbrev pub bytes_of : List (List ℕ) → List ℕ
bytes_of = concat

-- Bytes, cut into this many sectors.
abbrev pub cut : ℕ → List ℕ → List (List ℕ)
cut zero bytes = []
cut (suc n) bytes = take 512 bytes ∷ cut n (drop 512 bytes)
