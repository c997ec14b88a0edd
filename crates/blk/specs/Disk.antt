-- The model of the disk under a block device (VIRTIO 1.2, 5.2).
use Rattle.std.specs.Prelude.{◌≡◌, ◌≢◌, ℕ, List, length, All, Bool, IsTrue, Result, slice_set, slice_index_or, [], IsOk, OnOk, OnErr}
use Rattle.guestmem.specs.Failures.{counted}
use Rattle.guestmem.specs.Number.{IsBytes}

-- A sector is 512 bytes.
pub record IsSector (sector : List ℕ) : Type 0 where
  pub size : length sector ≡ 512
  pub bytes : IsBytes sector

abbrev pub AreSectors : List (List ℕ) → Type 0
AreSectors sectors = All IsSector sectors

-- The model of a disk: its sectors, how often it failed (modulo 2^64), whether a read returns what was written (`honest`),
-- whether it never fails (`steady`), and whether all that was written is durable (`is_flushed`).
pub record DiskState : Type 0 where
  pub sectors : List (List ℕ)
  pub failures : ℕ
  pub honest : Bool
  pub steady : Bool
  pub is_flushed : Bool

abbrev pub sector_at : List (List ℕ) → ℕ → List ℕ
sector_at sectors n = slice_index_or sectors n []

-- What holds after each call, whether it succeeds or fails.
pub record Keeps {T E : Type 0} (old new : DiskState) (result : Result T E) : Type 0 where
  pub count : new.failures ≡ counted old.failures result
  pub honest : new.honest ≡ old.honest
  pub steady : new.steady ≡ old.steady
  pub size : length new.sectors ≡ length old.sectors
  pub never_fails : IsTrue old.steady → IsOk result

-- Every sector but sector n is unchanged.
abbrev pub SameBut : ℕ → List (List ℕ) → List (List ℕ) → Type 0
SameBut n old new = (k : ℕ) → k ≢ n → sector_at new k ≡ sector_at old k

-- A read changes no sector and leaves the disk flushed or not, as it was. One that succeeds on an honest disk returns the
-- sector.
pub record Reads {T E : Type 0} (old : DiskState) (n : ℕ) (bytes : List ℕ) (result : Result T E) (new : DiskState) : Type 0 where
  pub keeps : Keeps old new result
  pub same : new.sectors ≡ old.sectors
  pub found : OnOk result (IsTrue old.honest → bytes ≡ sector_at old.sectors n)
  pub flushed : new.is_flushed ≡ old.is_flushed

-- On an honest disk, a write that succeeds sets its sector and no other. On any disk, a write that fails may leave any
-- bytes in its sector, and changes no other.
pub record Writes {T E : Type 0} (old : DiskState) (n : ℕ) (bytes : List ℕ) (result : Result T E) (new : DiskState) : Type 0 where
  pub keeps : Keeps old new result
  pub set : OnOk result (IsTrue old.honest → new.sectors ≡ slice_set old.sectors n bytes)
  pub torn : OnErr result (SameBut n old.sectors new.sectors)

-- A flush changes no sector. After one that succeeds the disk is flushed.
pub record Flushes {T E : Type 0} (old : DiskState) (result : Result T E) (new : DiskState) : Type 0 where
  pub keeps : Keeps old new result
  pub same : new.sectors ≡ old.sectors
  pub flushed : OnOk result (IsTrue new.is_flushed)
