-- What the environment, disk and allocator, let happen in a step.
use Rattle.std.specs.Prelude.{Bool, true, false}
use Rattle.machine.specs.declared.reply.Reply.{Reply}
use Rattle.machine.specs.declared.reply.Reply.TheVariants.{DiskFailed, NoMemory}

-- The environment did all that was asked of it, or a call of a disk failed, or memory was refused.
pub data Outcome : Type 0 where
  fine : Outcome
  disk_failed : Outcome
  no_memory : Outcome

-- The outcome that a reply reports.
abbrev pub outcome_of : Reply → Outcome
outcome_of DiskFailed = disk_failed
outcome_of NoMemory = no_memory
outcome_of _ = fine

-- Whether a reply reports that the disk failed.
abbrev pub is_failure : Reply → Bool
is_failure DiskFailed = true
is_failure _ = false

-- Whether the calls of a disk succeed with this outcome.
abbrev pub disk_does : Outcome → Bool
disk_does fine = true
disk_does disk_failed = false
disk_does no_memory = true
