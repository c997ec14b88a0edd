-- Disks in memory never fail, and a read of them gives what was written. So what is promised under the premise of honest or steady
-- disks holds for a host whose disks are of type `MemDisk`, in each call of the life of its machine.
use Rattle.std.specs.Prelude.{◌≡◌, ℕ, List, map, All, true}
use Rattle.blk.specs.Disk.{DiskState}
use Rattle.machine.specs.Applied.{IsApplied}
use Rattle.machine.specs.First.{dealt_marks, marks_in}
use Rattle.machine.specs.Seen.{Marks, Seen, all_marks, marks_at, no_marks}
use Rattle.machine.specs.Unsynced.{FailsFlush}
use Rattle.machine.specs.declared.event.Event.{Event}
use Rattle.machine.specs.declared.reply.Reply.{Reply}
use Rattle.machine.specs.declared.shape.Shape.{Shape}
use Rattle.receiver.specs.Disks.{AreHonestDisks, disk_marks_of}
use Rattle.sender.specs.Calls.{Serves}
use Rattle.sender.specs.LiveState.{LiveSeen}
use Rattle.sender.specs.declared.event.LiveEvent.{LiveEvent}
use Rattle.sender.specs.declared.event.LiveReply.{LiveReply}

-- The meaning of a `MemDisk` with these sectors.
abbrev pub memory_state : List (List ℕ) → DiskState
memory_state sectors = record { sectors = sectors; failures = 0; honest = true; steady = true; is_flushed = true }

-- The disks are honest and steady, and none has failed.
abbrev pub AreReliable : List Marks → Type 0
AreReliable marks = All (λ k. k ≡ no_marks) marks

-- Disks in memory are reliable: as they are handed in for a new machine, and as a receiver sees them.
pub record AreReliableDisks (disks : List (List (List ℕ))) : Type 0 where
  pub for_a_machine : AreReliable (map (λ d. marks_in (memory_state d)) disks)
  pub for_a_receiver : AreReliable (disk_marks_of memory_state disks)

abbrev pub MemoryIsReliable : Type 0
MemoryIsReliable = (disks : List (List (List ℕ))) → AreReliableDisks disks

-- So are the disks of a machine over reliable disks: one that is new, was saved, or is received.
abbrev pub MachinesAreReliable : Type 0
MachinesAreReliable = (m : Seen) (shapes : List Shape) (marks : List Marks) → AreReliable marks → all_marks m ≡ dealt_marks shapes marks → AreReliable (all_marks m)

-- They stay so, whatever is applied to the machine,
abbrev pub ApplyingStaysReliable : Type 0
ApplyingStaysReliable = (m next : Seen) (e : Event) (reply : Reply) → AreReliable (all_marks m) → IsApplied m e reply next → AreReliable (all_marks next)

-- also where a flush fails in place of its step: its disk has not failed,
abbrev pub FailingStaysReliable : Type 0
FailingStaysReliable = (m next : Seen) (dev pick : ℕ) → AreReliable (all_marks m) → FailsFlush m dev pick next → AreReliable (all_marks next)

-- and in each call while it is being migrated.
abbrev pub ServingStaysReliable : Type 0
ServingStaysReliable = (l next : LiveSeen) (e : LiveEvent) (reply : LiveReply) → AreReliable (all_marks l.machine) → Serves l e reply next → AreReliable (all_marks next.machine)

-- Reliable disks are honest and steady: the premises of the promises.
pub record AreHonestAndSteady (marks : List Marks) : Type 0 where
  pub honest : AreHonestDisks marks
  pub steady : (dev : ℕ) → (marks_at marks dev).steady ≡ true

abbrev pub ReliableIsHonest : Type 0
ReliableIsHonest = (marks : List Marks) → AreReliable marks → AreHonestAndSteady marks
