-- The disks of machines of handles: they lie in memory.
use Rattle.std.specs.Prelude.{◌≡◌, ◌≤◌, ◌<◌, ℕ, true, List, map}
use Rattle.blk.specs.Disk.{DiskState}
use Rattle.machine.specs.Applied.{IsApplied}
use Rattle.machine.specs.Seen.{Seen, all_marks, no_marks, state_of}
use Rattle.machine.specs.declared.event.Event.{Event}
use Rattle.machine.specs.declared.reply.Reply.{Reply}
use Rattle.c_machine.specs.Status.{status_of}

-- Each disk is honest and steady, and never failed: what is said of honest disks holds of such a machine, and no reply says
-- that a disk failed.
abbrev pub ArePlain : Seen → Type 0
ArePlain m = all_marks m ≡ map (λ d. no_marks) m.devices

-- What a disk in memory means.
abbrev pub mem_state : List (List ℕ) → DiskState
mem_state d = record { sectors = d; failures = 0; honest = true; steady = true; is_flushed = true }

-- Such a machine stays so, whatever is applied to it.
abbrev pub PlainStays : Type 0
PlainStays = (m next : Seen) (e : Event) (reply : Reply) → ArePlain m → IsApplied m e reply next → ArePlain next

-- A status from 1 to 63 says that the event was refused, or that memory was: nothing changed.
abbrev pub RefusedChangesNothing : Type 0
RefusedChangesNothing = (m next : Seen) (e : Event) (reply : Reply) → ArePlain m → IsApplied m e reply next → 1 ≤ status_of reply → status_of reply < 64 → state_of next ≡ state_of m
