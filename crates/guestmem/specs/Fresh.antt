use Rattle.std.specs.Prelude.{◌≡◌, ℕ, ◌-◌, ◌*◌, ◌%◌, ◌≤◌, ◌++◌, List, None, length, replicate}
use Rattle.guestmem.specs.declared.limits.TheConstants.{PAGE_SIZE, PAGES_GREATEST}
use Rattle.guestmem.specs.Memory.{Memory}

-- These bytes, and zeros after them up to `size` bytes.
abbrev pub filled_up : ℕ → List ℕ → List ℕ
filled_up size bytes = bytes ++ replicate (size - length bytes) 0

-- The RAM with these versions of its pages, where these bytes came so far.
abbrev pub ram_so_far : List ℕ → List ℕ → Memory
ram_so_far bytes versions = record { bytes = filled_up (PAGE_SIZE * length versions) bytes; versions = versions; place = None }

-- What holds of each RAM in memory of the library whose pages come: the bytes up to the last page that came are whole pages of the
-- RAM, each page has a version, and there is room for all pages.
pub record IsFresh (bytes versions : List ℕ) (room : ℕ) : Type 0 where
  pub whole : length bytes % PAGE_SIZE ≡ 0
  pub inside : length bytes ≤ PAGE_SIZE * length versions
  pub roomy : PAGE_SIZE * length versions ≤ room
  pub some : 1 ≤ length versions
  pub few : length versions ≤ PAGES_GREATEST
