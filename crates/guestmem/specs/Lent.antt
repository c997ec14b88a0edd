-- A RAM in memory of the caller, whose bytes are lent to the caller and given back.
use Rattle.std.specs.Prelude.{◌≡◌, ℕ, ◌*◌, ◌/◌, ◌<◌, ◌==◌, ◌||◌, Bool, false, List, [], ◌∷◌, All, Some, length, map, slice_index, slice_set}
use denote.RawPtr.{Ptr}
use Rattle.region.specs.Address.{address}
use Rattle.region.specs.declared.region.Region.{Region}
use Rattle.guestmem.specs.declared.limits.TheConstants.{PAGE_SIZE}
use Rattle.guestmem.specs.Item.{Item, page}
use Rattle.guestmem.specs.Memory.{IsMemory, Memory}
use Rattle.guestmem.specs.Page.{page_of}
use Rattle.guestmem.specs.Write.{raised, written}

-- The RAM was lent: the region has its bytes and lies where they lay, and its versions are kept.
pub record IsLent (m : Memory) (region : Region) (versions : List ℕ) : Type 0 where
  pub bytes : region.content ≡ m.bytes
  pub place : m.place ≡ Some (address region)
  pub versions_are : versions ≡ m.versions

-- The versions after a write into each of these pages, one after another.
abbrev pub raise_each : List ℕ → List ℕ → List ℕ
raise_each versions [] = versions
raise_each versions (n ∷ pages) = raise_each (slice_set versions n (raised (slice_index versions n))) pages

-- The RAM that is given back, whatever was written meanwhile: its bytes are those that lie there now, and the versions of the
-- named pages have risen.
abbrev pub given_back : List ℕ → Ptr → List ℕ → List ℕ → Memory
given_back bytes place versions pages = record { bytes = bytes; versions = raise_each versions pages; place = Some place }

-- These pages, as items.
abbrev pub page_items : List ℕ → List Item
page_items pages = map page pages

-- Each of these is the number of one of `count` pages.
abbrev pub AreBelow : ℕ → List ℕ → Type 0
AreBelow count pages = All (λ n. n < count) pages

-- Whether page n is one of these.
abbrev pub is_named : List ℕ → ℕ → Bool
is_named [] n = false
is_named (k ∷ pages) n = n == k || is_named pages n

-- RAM after each of these pages was written whole, one after another, with the bytes that `bytes` has there.
abbrev pub pages_written : Memory → List ℕ → List ℕ → Memory
pages_written m [] bytes = m
pages_written m (n ∷ pages) bytes = pages_written (written m (PAGE_SIZE * n) (page_of bytes n)) pages bytes

-- If the bytes lie where they lay, are as many, and differ from those that were lent at no address outside of the named pages,
-- the RAM that is given back is the one that was lent after each of these pages was written whole.
abbrev pub GivenBackIsWritten : Type 0
GivenBackIsWritten = (m : Memory) (bytes : List ℕ) (place : Ptr) (pages : List ℕ) → IsMemory m → m.place ≡ Some place → length bytes ≡ length m.bytes → AreBelow (length m.versions) pages
    → ((a : ℕ) → is_named pages (a / PAGE_SIZE) ≡ false → slice_index bytes a ≡ slice_index m.bytes a)
    → given_back bytes place m.versions pages ≡ pages_written m pages bytes

-- RAM after a mark of these pages: their versions have risen, and no byte has changed.
abbrev pub marked : Memory → List ℕ → Memory
marked m pages = record m { versions = raise_each m.versions pages }

-- It is the RAM after each of these pages was written whole, one after another, with the bytes that lie there.
abbrev pub MarkedIsWritten : Type 0
MarkedIsWritten = (m : Memory) (pages : List ℕ) → IsMemory m → AreBelow (length m.versions) pages → marked m pages ≡ pages_written m pages m.bytes
