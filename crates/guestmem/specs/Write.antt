use Rattle.std.specs.Prelude.{ℕ, ◌+◌, ◌-◌, ◌/◌, ◌^◌, ◌++◌, List, length, take, drop, map, nat_lt, Option, Some, None, Result, Ok, Err, if◌then◌else◌, ◌==◌}
use Rattle.guestmem.specs.declared.limits.TheConstants.{PAGE_SIZE, ACCESS_MAX}
use Rattle.guestmem.specs.Memory.{Memory}
use Rattle.guestmem.specs.declared.touched.Touched.{Touched}
use Rattle.guestmem.specs.declared.touched.Touched.TheVariants.{NoPage, Pages}
use Rattle.guestmem.specs.declared.error.RamError.{RamError}
use Rattle.guestmem.specs.declared.error.RamError.TheVariants.{OutOfRam, TooLong}

-- Why an access of `count` bytes from an index on is refused in a RAM of `len` bytes, if it is. TooLong comes before OutOfRam.
abbrev pub refusal_of : ℕ → ℕ → ℕ → Option RamError
refusal_of len index count = if nat_lt ACCESS_MAX count then Some TooLong else if nat_lt len (index + count) then Some OutOfRam else None

-- The number that stands for the reason of a refusal.
abbrev pub code_of : RamError → ℕ
code_of OutOfRam = 1
code_of TooLong = 2

abbrev pub unless_refused : {A : Type 0} → Option RamError → A → Result A RamError
unless_refused None x = Ok x
unless_refused (Some e) x = Err e

-- The list `old`, with these bytes from index `at` on.
abbrev pub put_at : List ℕ → ℕ → List ℕ → List ℕ
put_at old at bytes = take at old ++ bytes ++ drop (at + length bytes) old

-- The version of a page after a write into it: it rises by one, and stays once it is 2^64 - 1.
abbrev pub raised : ℕ → ℕ
raised version = if nat_lt version (2 ^ 64 - 1) then version + 1 else version

-- The versions after a write into the pages from `first` to `last`, both included.
abbrev pub raise : List ℕ → ℕ → ℕ → List ℕ
raise versions first last = take first versions ++ map raised (take (last + 1 - first) (drop first versions)) ++ drop (last + 1) versions

-- The pages that an access of `count` bytes from index `at` on touches.
abbrev pub touched_of : ℕ → ℕ → Touched
touched_of at count = if count == 0 then NoPage else Pages (at / PAGE_SIZE) ((at + count - 1) / PAGE_SIZE)

abbrev pub raise_touched : List ℕ → Touched → List ℕ
raise_touched versions NoPage = versions
raise_touched versions (Pages first last) = raise versions first last

-- RAM after a write. Its bytes lie where they lay.
abbrev pub written : Memory → ℕ → List ℕ → Memory
written m at bytes = record m {
  bytes = put_at m.bytes at bytes;
  versions = raise_touched m.versions (touched_of at (length bytes));
}
