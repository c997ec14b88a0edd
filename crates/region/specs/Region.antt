-- What a region owns.
use Prim.Native.Nat.{ℕ, zero, suc, ◌^◌}
use Rattle.std.specs.Prelude.{List, length}
use base.Fraction.{full_share}
use base.Fml.{Fml, Lft, ftrue, fsep, feq, flt}
use base.Stored.{Coded}
use denote.Array.{Array}
use denote.Builtin.{u8}
use denote.RawPtr.{Ptr, lies_at}
use denote.Sharing.{nothing, said, beside}
use denote.Struct.Lending.{lent_at}

-- `count` bytes lie at the pointer.
abbrev pub bytes_lie : Ptr → ℕ → List ℕ → Fml
bytes_lie at count bytes = lies_at (Array u8 count) full_share at bytes

-- The same, where there may be none: then nothing is owned, and the pointer may be anything.
abbrev pub bytes_owned : Ptr → ℕ → List ℕ → Fml
bytes_owned at zero bytes = ftrue
bytes_owned at (suc n) bytes = bytes_lie at (suc n) bytes

-- There are as many bytes as the region says, fewer than 2^63, and they lie at its pointer.
abbrev pub region_owns : Ptr → ℕ → List ℕ → Fml
region_owns at len content = fsep (feq ℕ len (length content)) (fsep (flt len (2 ^ 63)) (bytes_owned at len content))

-- What a `&` to a region has: a `&` to the bytes, if there are any, and the same two facts.
abbrev pub bytes_lent : Ptr → ℕ → List ℕ → Lft → Fml
bytes_lent at zero bytes = nothing
bytes_lent at (suc n) bytes = lent_at (Array u8 (suc n)) at bytes

abbrev pub region_lends : Ptr → ℕ → List ℕ → Lft → Fml
region_lends at len content = beside (said (feq ℕ len (length content))) (beside (said (flt len (2 ^ 63))) (bytes_lent at len content))

-- How a list of bytes is stored.
abbrev pub region_coded : Coded (List ℕ)
region_coded = (Array u8 0).coded
