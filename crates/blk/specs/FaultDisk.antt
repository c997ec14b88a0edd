-- A disk that fails according to a plan.
use Rattle.std.specs.Prelude.{◌≡◌, ℕ, ◌+◌, ◌-◌, ◌^◌, ◌==◌, nat_lt, List, Bool, true, false, Result, IsErr, if◌then◌else◌}
use Rattle.std.specs.List.{list_any}
use Rattle.guestmem.specs.Failures.{counted}
use Rattle.blk.specs.Disk.{DiskState}

-- The model of such a disk: the disk below, the numbers of the calls that are to fail, how many calls there were, and how
-- many of them failed (modulo 2^64).
pub record FaultState : Type 0 where
  pub disk : DiskState
  pub plan : List ℕ
  pub calls : ℕ
  pub failures : ℕ

-- As a disk: it holds what the disk below holds, and is as honest and as flushed.
abbrev pub disk_of : FaultState → DiskState
disk_of f = record { sectors = f.disk.sectors; failures = f.failures; honest = f.disk.honest; steady = false; is_flushed = f.disk.is_flushed }

-- A count of calls after one more: it stays once it is 2^64 - 1.
abbrev pub one_more_call : ℕ → ℕ
one_more_call calls = if nat_lt calls (2 ^ 64 - 1) then calls + 1 else calls

-- The number of the next call: calls are counted from 1.
abbrev pub next_call : FaultState → ℕ
next_call f = one_more_call f.calls

-- Whether the next call is to fail.
abbrev pub is_planned : FaultState → Bool
is_planned f = list_any (λ n. n == next_call f) f.plan

-- A call was made. One that was to fail failed, and the disk below was not called. Any other failed exactly if the disk
-- below failed.
pub record IsCalled {T E : Type 0} (old : FaultState) (result : Result T E) (new : FaultState) : Type 0 where
  pub plan : new.plan ≡ old.plan
  pub calls : new.calls ≡ next_call old
  pub planned : is_planned old ≡ true → IsErr result × (new.disk ≡ old.disk)
  pub others : is_planned old ≡ false → new.disk.failures ≡ counted old.disk.failures result
