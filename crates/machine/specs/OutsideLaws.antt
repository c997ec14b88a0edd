-- Laws of disks outside, over machines.
use Rattle.std.specs.Prelude.{◌≡◌, ℕ, ◌+◌, ◌%◌, ◌<◌, List, ◌++◌, length, true, Some}
use Rattle.blk.specs.Outside.{answers}
use Rattle.blk.specs.declared.disk.TheConstants.{SECTOR_SIZE}
use Rattle.machine.specs.Outcome.{Outcome, fine}
use Rattle.machine.specs.Outside.{answer_of, disk_call_of, reply_to_disk}
use Rattle.machine.specs.Sound.{IsSound}
use Rattle.machine.specs.State.{MachineState}
use Rattle.machine.specs.Step.{IsStep}
use Rattle.machine.specs.declared.event.DiskAnswer.{DiskAnswer}
use Rattle.machine.specs.declared.event.DiskAnswer.TheVariants.{Did, Gave}
use Rattle.machine.specs.declared.event.Event.TheVariants.{Disk, Step}
use Rattle.machine.specs.declared.outside_call.OutsideCall.{OutsideCall}
use Rattle.machine.specs.declared.reply.Reply.{Reply}
use Rattle.machine.specs.declared.reply.Reply.TheVariants.{Idle, Moved}

-- No step advances a request that waits for a disk outside: it is idle, and changes nothing.
abbrev pub WaitingIsIdle : Type 0
WaitingIsIdle = (m : MachineState) (dev pick : ℕ) (asked : OutsideCall) (o : Outcome) (r : Reply) (after : MachineState) → IsSound m → disk_call_of m dev pick ≡ Some asked → IsStep m (Step dev pick) o r after → (r ≡ Idle) × (after ≡ m)

-- An answer to what is asked, whole or in part, is taken.
abbrev pub AskedIsTaken : Type 0
AskedIsTaken = (m : MachineState) (dev pick : ℕ) (asked : OutsideCall) (given : DiskAnswer) → disk_call_of m dev pick ≡ Some asked → answers asked.call (answer_of given) ≡ true
    → (after : MachineState) × IsStep m (Disk dev pick given) fine (reply_to_disk (answer_of given)) after

-- Two answers are taken, one after another.
pub record TakesBoth (m : MachineState) (dev pick : ℕ) (first second : DiskAnswer) (after : MachineState) : Type 0 where
  pub between : MachineState
  pub first_is : IsStep m (Disk dev pick first) fine Moved between
  pub second_is : IsStep between (Disk dev pick second) fine Moved after

-- A run of sectors that a disk gave is its parts, one event after another: it may be cut after any of them.
abbrev pub GivenInParts : Type 0
GivenInParts = (m after : MachineState) (dev pick : ℕ) (front back : List ℕ) → IsStep m (Disk dev pick (Gave (front ++ back))) fine Moved after → 0 < length front → length front % SECTOR_SIZE ≡ 0 → 0 < length back
    → TakesBoth m dev pick (Gave front) (Gave back) after

-- Two in turn are one run.
abbrev pub GivenTogether : Type 0
GivenTogether = (m after : MachineState) (dev pick : ℕ) (front back : List ℕ) → TakesBoth m dev pick (Gave front) (Gave back) after → IsStep m (Disk dev pick (Gave (front ++ back))) fine Moved after

-- The same of units that were done.
abbrev pub DoneInParts : Type 0
DoneInParts = (m after : MachineState) (dev pick i j : ℕ) → IsStep m (Disk dev pick (Did (i + j))) fine Moved after → 0 < i → 0 < j → TakesBoth m dev pick (Did i) (Did j) after

abbrev pub DoneTogether : Type 0
DoneTogether = (m after : MachineState) (dev pick i j : ℕ) → TakesBoth m dev pick (Did i) (Did j) after → IsStep m (Disk dev pick (Did (i + j))) fine Moved after
