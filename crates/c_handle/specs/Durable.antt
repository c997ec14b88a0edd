-- When a driver takes what was written to a disk for durable, and what follows where the disk could not be brought to its file, or is on storage that
-- may have lost what it answered: the disk is lost. That is for good, since the system reports a failed sync once. So each later flush of the disk
-- fails. Of a disk in memory a write after whose end the driver takes what was written for durable does not end; of one outside it fails
-- (`specs/DiskCalls`).
use Rattle.std.specs.Prelude.{◌≡◌, ℕ, ◌≤◌, ◌<◌, Bool, true, false, if◌then◌else◌, List, length, Option, Some, None, slice_get, slice_set}
use Rattle.blk.specs.declared.durable.SyncOwed.{SyncOwed}
use Rattle.blk.specs.declared.durable.SyncOwed.TheVariants.{Nothing}
use Rattle.machine.specs.Parked.{parked_states}
use Rattle.machine.specs.Refusal.{code_of}
use Rattle.machine.specs.Seen.{Seen, state_of}
use Rattle.machine.specs.State.{DeviceState, MachineState}
use Rattle.machine.specs.Unsynced.{FailsFlush, FailsFlushIf, makes_flush, owed}
use Rattle.machine.specs.declared.kind.Kind.{Kind}
use Rattle.machine.specs.declared.kind.Kind.TheVariants.{Network, Block, Outside, Console, Entropy}
use Rattle.machine.specs.declared.reply.Refusal.TheVariants.{WrongKind}
use Rattle.machine.specs.declared.reply.Reply.TheVariants.{DiskFailed}
use Rattle.sender.specs.LiveState.{HasPlaces, LiveSeen, now}
use Rattle.sender.specs.Unsynced.{FailsLiveFlushIf}
use Rattle.sender.specs.declared.mig_error.MigError.TheVariants.{AlreadyStopped}
use Rattle.c_handle.specs.Kept.{KeptSeen, LoanSeen, StillLent, MovingLent, State, Still, Moving, Arriving, Lent, is_lost}
use Rattle.c_handle.specs.Mirror.{Mirrors, is_closed}
use Rattle.c_handle.specs.OnHandle.{ByState, Refuses, Unless}
use Rattle.c_machine.specs.Plain.{ArePlain}
use Rattle.c_machine.specs.Status.{done, idle, no_device, no_machine, status_of}
use Rattle.c_handle.specs.SendStatus.{mig_status}

-- What a step owes of a machine that makes steps. One that was stopped, arrives or has lent its RAM makes none.
abbrev pub owed_for : Option DeviceState → ℕ → SyncOwed
owed_for None pick = Nothing
owed_for (Some d) pick = owed d pick

abbrev pub owed_of : MachineState → ℕ → ℕ → SyncOwed
owed_of m dev pick = owed_for (slice_get m.devices dev) pick

abbrev pub owed_unless : Bool → MachineState → ℕ → ℕ → SyncOwed
owed_unless true m dev pick = Nothing
owed_unless false m dev pick = owed_of m dev pick

abbrev pub owed_in : State → ℕ → ℕ → SyncOwed
owed_in (Still m) dev pick = owed_of (state_of m) dev pick
owed_in (Moving l) dev pick = owed_unless (is_closed l.phase) (state_of l.machine) dev pick
owed_in (Arriving r) dev pick = Nothing
owed_in (Lent x) dev pick = Nothing

-- What a step owes and does not get, since the disk is lost.
abbrev pub owed_lost : KeptSeen → ℕ → ℕ → SyncOwed
owed_lost k dev pick = if is_lost k dev then owed_in k.state dev pick else Nothing

-- A step that makes a flush is made as one whose disk failed, and has the status of that step. Where it makes none, the machine stays as
-- it is.
abbrev pub failed_status : Bool → ℕ
failed_status true = status_of DiskFailed
failed_status false = idle

pub record FailsSync (m : Seen) (dev pick status : ℕ) (next : Seen) : Type 0 where
  pub status_is : status ≡ failed_status (makes_flush (state_of m) dev pick)
  pub failed : FailsFlushIf (makes_flush (state_of m) dev pick) m dev pick next

-- As above, for a machine that is being migrated. One that was stopped makes no steps.
pub record FailsLiveSync (l : LiveSeen) (dev pick status : ℕ) (next : LiveSeen) : Type 0 where
  pub places : HasPlaces l
  pub status_is : status ≡ failed_status (makes_flush (now l) dev pick)
  pub failed : FailsLiveFlushIf (makes_flush (now l) dev pick) l dev pick next

abbrev pub FailsUnless : Bool → LiveSeen → ℕ → ℕ → ℕ → LiveSeen → Type 0
FailsUnless true l dev pick status next = (status ≡ mig_status AlreadyStopped) × (next ≡ l)
FailsUnless false l dev pick status next = FailsLiveSync l dev pick status next

abbrev pub FailsKept : State → ℕ → ℕ → ℕ → State → Type 0
FailsKept k dev pick status next =
    ByState (λ reason. status ≡ reason) (λ m after. FailsSync m dev pick status after) (λ l after. FailsUnless (is_closed l.phase) l dev pick status after) k next

-- Why no disk is lost: there is no such device, it has no disk, or there is no machine whose guest runs.
abbrev pub kind_refusal : Kind → Option ℕ
kind_refusal (Block block) = None
kind_refusal (Network mac inbox) = Some (code_of WrongKind)
kind_refusal (Outside block) = None
kind_refusal (Console size held) = Some (code_of WrongKind)
kind_refusal (Entropy pool) = Some (code_of WrongKind)

abbrev pub disk_refusal : Option DeviceState → Option ℕ
disk_refusal None = Some no_device
disk_refusal (Some d) = kind_refusal d.kind

abbrev pub disk_refusal_unless : Bool → List DeviceState → ℕ → Option ℕ
disk_refusal_unless true devices dev = Some (mig_status AlreadyStopped)
disk_refusal_unless false devices dev = disk_refusal (slice_get devices dev)

abbrev pub loan_refusal : LoanSeen → ℕ → Option ℕ
loan_refusal (StillLent p) dev = disk_refusal (slice_get (parked_states p) dev)
loan_refusal (MovingLent l) dev = disk_refusal_unless (is_closed l.phase) (parked_states l.machine) dev

abbrev pub loss_refusal : State → ℕ → Option ℕ
loss_refusal (Still m) dev = disk_refusal (slice_get (state_of m).devices dev)
loss_refusal (Moving l) dev = disk_refusal_unless (is_closed l.phase) (state_of l.machine).devices dev
loss_refusal (Arriving r) dev = Some no_machine
loss_refusal (Lent x) dev = loan_refusal x dev

-- The disk of this device is lost from now on, and nothing else changed.
pub record HasLost (k : KeptSeen) (dev status : ℕ) (next : KeptSeen) : Type 0 where
  pub status_is : status ≡ done
  pub rest : next ≡ record k { lost = slice_set k.lost dev true }

abbrev pub Loses : KeptSeen → ℕ → ℕ → KeptSeen → Type 0
Loses k dev status next = Unless (loss_refusal k.state dev) (Refuses status next k) (HasLost k dev status next)

pub record HasFailed (k : KeptSeen) (dev status : ℕ) (after : Option KeptSeen) : Type 0 where
  pub next : KeptSeen
  pub is_next : after ≡ Some next
  pub loses : Loses k dev status next

abbrev pub Failed : Option KeptSeen → ℕ → ℕ → Option KeptSeen → Type 0
Failed None dev status after = (status ≡ no_machine) × (after ≡ None)
Failed (Some k) dev status after = HasFailed k dev status after

-- A status from 1 to 63 says that it was refused: nothing changed.
abbrev pub RefusedFailsNothing : Type 0
RefusedFailsNothing = (k next : KeptSeen) (dev status : ℕ) → Loses k dev status next → 1 ≤ status → status < 64 → next ≡ k

-- Where it was not refused, the disk is lost.
abbrev pub FailedIsLost : Type 0
FailedIsLost = (k next : KeptSeen) (dev status : ℕ) → Loses k dev status next → loss_refusal k.state dev ≡ None → dev < length k.lost → is_lost next dev ≡ true

-- The disks of a machine that lie in memory are so after it: none of them has failed.
abbrev pub FailedStaysPlain : Type 0
FailedStaysPlain = (m next : Seen) (dev pick : ℕ) → ArePlain m → FailsFlush m dev pick next → ArePlain next

-- The RAM of a machine stays as it is, so a mirror of it stays one.
abbrev pub FailedMirrors : Type 0
FailedMirrors = (m next : Seen) (dev pick : ℕ) (ram seen : List ℕ) → FailsFlush m dev pick next → Mirrors m.memory ram seen → Mirrors next.memory ram seen
