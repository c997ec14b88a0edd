-- What becomes of a region whose bytes are lent.
use Rattle.std.specs.Prelude.{ℕ, List}
use Rattle.std.specs.Borrow.{Lends, MutBor, Fml}
use denote.Array.{Array}
use denote.Builtin.{u8}
use Rattle.region.specs.declared.region.Region.{Region}
use Rattle.region.specs.contracts.region.Region.{the_row}
use Rattle.region.specs.contracts.kept_region.KeptRegion.{the_row as kept_row}

-- The region with other bytes, at the same address and as many.
abbrev pub with_content : Region → List ℕ → Region
with_content r bytes = record r { content = bytes }

-- When the borrow ends, the region holds the bytes that the slice has then.
abbrev pub LendsBytes : MutBor Region → MutBor (List ℕ) → Fml
LendsBytes s r = Lends the_row (Array u8 0) s r (with_content s.now)

-- The same of a region that is kept.
abbrev pub LendsKept : MutBor Region → MutBor (List ℕ) → Fml
LendsKept s r = Lends kept_row (Array u8 0) s r (with_content s.now)
