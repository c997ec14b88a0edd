use Rattle.std.specs.Prelude.{◌≡◌, ℕ, ◌*◌, ◌≤◌, List, Option, length}
use denote.RawPtr.{Ptr}
use Rattle.guestmem.specs.declared.limits.TheConstants.{PAGE_SIZE, PAGES_GREATEST}

-- Flat memory. The model of a RAM in contracts: its bytes in order, the version of each page, and where the
-- bytes lie: at a pointer, if they lie in memory of the caller; None, if they lie in memory of the library.
pub record Memory : Type 0 where
  pub bytes : List ℕ
  pub versions : List ℕ
  pub place : Option Ptr

-- RAM is a whole number of pages, from 1 to PAGES_GREATEST, and each page has a version.
pub record IsMemory (m : Memory) : Type 0 where
  pub pages : length m.bytes ≡ PAGE_SIZE * length m.versions
  pub some : 1 ≤ length m.versions
  pub few : length m.versions ≤ PAGES_GREATEST
