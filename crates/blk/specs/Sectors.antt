-- The sectors of a disk, some of which may be bad.
use Rattle.std.specs.Prelude.{All, ◌≡◌, ℕ, ◌+◌, ◌%◌, ◌^◌, List, [], ◌∷◌, length, map, Bool, true, false, IsTrue, Option, Some, None, slice_index_or, if◌then◌else◌}
use Rattle.blk.specs.Disk.{DiskState, IsSector}
use Rattle.blk.specs.declared.sectors.Fetched.{Fetched}
use Rattle.blk.specs.declared.sectors.Fetched.TheVariants.{Bad, Failed, Read}

-- The bytes of a sector, or None if it is bad.
abbrev pub Sector : Type 0
Sector = Option (List ℕ)

abbrev pub is_bad : Sector → Bool
is_bad None = true
is_bad (Some bytes) = false

abbrev pub bytes_of : Sector → List ℕ
bytes_of None = []
bytes_of (Some bytes) = bytes

abbrev pub sector_if : Bool → List ℕ → Sector
sector_if true bytes = None
sector_if false bytes = Some bytes

-- The sectors of a disk, by what it holds and which of them are marked bad.
abbrev pub sectors_of : List (List ℕ) → List Bool → List Sector
sectors_of [] marks = []
sectors_of (s ∷ ss) [] = Some s ∷ sectors_of ss []
sectors_of (s ∷ ss) (b ∷ bs) = sector_if b s ∷ sectors_of ss bs

-- A sector that is not bad has 512 bytes.
abbrev pub IsWhole : Sector → Type 0
IsWhole None = Unit {0}
IsWhole (Some bytes) = IsSector bytes

abbrev pub AreWhole : List Sector → Type 0
AreWhole content = All IsWhole content

-- The sectors of a disk as it returned them in one step: the same ones are bad, and each good one has 512 bytes. An honest
-- disk returns what it holds.
pub record IsGiven (honest : Bool) (content given : List Sector) : Type 0 where
  pub bad : map is_bad given ≡ map is_bad content
  pub whole : AreWhole given
  pub is : IsTrue honest → given ≡ content

abbrev pub sector_in : List Sector → ℕ → Sector
sector_in content n = slice_index_or content n None

-- The model of a disk with its marks of bad sectors: the sectors, how often a call failed (modulo 2^64), whether the disk is honest,
-- steady, and flushed, and the count of its calls.
pub record SectorsState : Type 0 where
  pub content : List Sector
  pub failures : ℕ
  pub honest : Bool
  pub steady : Bool
  pub is_flushed : Bool
  pub calls : ℕ

-- A disk of which no call is counted.
abbrev pub seen_of : DiskState → List Bool → SectorsState
seen_of d marks = record { content = sectors_of d.sectors marks; failures = d.failures; honest = d.honest; steady = d.steady; is_flushed = d.is_flushed; calls = 0 }

abbrev pub called_seen_of : DiskState → ℕ → List Bool → SectorsState
called_seen_of d calls marks = record (seen_of d marks) { calls = calls }

-- A count of failures, modulo 2^64, after a call that failed or did not.
abbrev pub counted_if : Bool → ℕ → ℕ
counted_if failed failures = if failed then (failures + 1) % 2 ^ 64 else failures

-- What holds after every call: the count of failures rises by one exactly if the call failed, and a steady disk never
-- fails.
pub record IsKept (old : SectorsState) (failed : Bool) (new : SectorsState) : Type 0 where
  pub count : new.failures ≡ counted_if failed old.failures
  pub honest : new.honest ≡ old.honest
  pub steady : new.steady ≡ old.steady
  pub size : length new.content ≡ length old.content
  pub never_fails : IsTrue old.steady → failed ≡ false

-- One call of the disk was made, or none; `called` is what one more call makes of the count.
abbrev pub Calls : (ℕ → ℕ) → Bool → SectorsState → SectorsState → Type 0
Calls called made old new = new.calls ≡ (if made then called old.calls else old.calls)

abbrev pub is_asked : Fetched → Bool
is_asked Bad = false
is_asked _ = true

abbrev pub is_failed : Fetched → Bool
is_failed Failed = true
is_failed _ = false

-- What the result of reading a sector says. Bad: the sector is bad, and is not read. Failed: it is not bad. Read: it is not
-- bad, and an honest disk returned its bytes.
abbrev pub IsFetched : Bool → Sector → List ℕ → Fetched → Type 0
IsFetched honest sector bytes Bad = is_bad sector ≡ true
IsFetched honest sector bytes Failed = is_bad sector ≡ false
IsFetched honest sector bytes Read = (is_bad sector ≡ false) × (IsTrue honest → bytes ≡ bytes_of sector)
