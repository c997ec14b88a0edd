-- What a receiver knows of a machine once it has read the header: what the header says, and what the host says of the machine: the
-- address at which its RAM begins, the length of the RAM that was handed in, and how large it may be. No stream tells that address, or
-- the limits.
use Rattle.std.specs.Prelude.{◌≡◌, ◌*◌, ℕ, List, length, IfSome, Option, Some, None}
use Rattle.guestmem.specs.Memory.{Memory}
use Rattle.machine.specs.Limits.{greatest, usual}
use Rattle.receiver.specs.declared.ram_terms.RamTerms.{RamTerms}
use Rattle.receiver.specs.declared.terms.Terms.{Terms}
use Rattle.machine.specs.Layout.{Layout}
use Rattle.machine.specs.declared.shape.Shape.{Shape}
use Rattle.wire.specs.Header as told

pub record Opened : Type 0 where
  pub ram : RamTerms
  pub version : ℕ
  pub pages : ℕ
  pub shapes : List Shape

-- What of it the header says.
abbrev pub said_by : Opened → told.Opening
said_by opening = record { version = opening.version; pages = opening.pages; shapes = opening.shapes }

-- A header, of a machine of whose RAM the host says this.
abbrev pub opened : RamTerms → told.Opening → Opened
opened ram heading = record { ram = ram; version = heading.version; pages = heading.pages; shapes = heading.shapes }

-- The bytes of its header, whether it is within the limits, and the items of the machine.
abbrev pub opened_header : Opened → List ℕ
opened_header opening = told.header (said_by opening)

abbrev pub IsOpenedHeader : Opened → Type 0
IsOpenedHeader opening = told.IsHeader (said_by opening)

abbrev pub opened_layout : Opened → Layout
opened_layout opening = told.layout_in (said_by opening)

-- The bytes begin with its header, and `rest` follows.
abbrev pub BeginsOpened : List ℕ → Opened → List ℕ → Type 0
BeginsOpened bytes opening rest = told.Begins bytes (said_by opening) rest

-- RAM begins at this address, and the limits are the usual or the greatest.
abbrev pub usual_at : ℕ → Terms
usual_at base = record { base = base; limits = usual }

abbrev pub greatest_at : ℕ → Terms
greatest_at base = record { base = base; limits = greatest }

-- These terms, and no RAM was handed in, or one with these bytes.
abbrev pub terms_at : Terms → RamTerms
terms_at terms = record { base = terms.base; len = None; limits = terms.limits }

abbrev pub terms_over : Terms → List ℕ → RamTerms
terms_over terms bytes = record { base = terms.base; len = Some (length bytes); limits = terms.limits }

abbrev pub told_by : Terms → Option Memory → RamTerms
told_by terms None = terms_at terms
told_by terms (Some ram) = terms_over terms ram.bytes

-- The same within the usual limits.
abbrev pub ram_at : ℕ → RamTerms
ram_at base = terms_at (usual_at base)

abbrev pub given_at : ℕ → List ℕ → RamTerms
given_at base bytes = terms_over (usual_at base) bytes

-- The RAM that the host handed in, if it did, has this count of pages.
abbrev pub HasPages : RamTerms → ℕ → Type 0
HasPages ram pages = IfSome ram.len (λ len. len ≡ 4096 * pages)
