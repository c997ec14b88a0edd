-- What becomes of the place of the bytes of a RAM, where these are lent.
use Rattle.std.specs.Prelude.{ℕ, List}
use Rattle.std.specs.Borrow.{Lends, MutBor, Fml, Array, u8}
use Rattle.std.specs.Vec.{with_items}
use Rattle.region.specs.Lending.{with_content}
use Rattle.guestmem.specs.declared.storage.Place.{Place}
use Rattle.guestmem.specs.declared.storage.Place.TheVariants.{Own, Callers}
use Rattle.guestmem.specs.contracts.storage.Place.{the_row}

-- The place with other bytes: as many, and where they were.
abbrev pub with_bytes : Place → List ℕ → Place
with_bytes (Own v) bytes = Own (with_items v bytes)
with_bytes (Callers region) bytes = Callers (with_content region bytes)

-- When the borrow ends, the place holds the bytes that the slice has then.
abbrev pub LendsPlace : MutBor Place → MutBor (List ℕ) → Fml
LendsPlace s r = Lends the_row (Array u8 0) s r (with_bytes s.now)
