-- What a step owes to the file or the device that holds a disk; a flush that fails in place of its step, and calls no disk, since the
-- bytes of the disk did not reach what holds them; and a flush of a disk beside all steps.
use Rattle.std.specs.Prelude.{◌≡◌, ◌≢◌, ℕ, ◌-◌, ◌&&◌, Bool, true, false, IsTrue, [], Option, Some, None, Result, OnOk, OnErr, slice_get, if◌then◌else◌}
use Rattle.blk.specs.Durable.{owed_at}
use Rattle.blk.specs.Flush.{flush_failed, flushes_at}
use Rattle.blk.specs.declared.durable.SyncOwed.{SyncOwed}
use Rattle.blk.specs.declared.durable.SyncOwed.TheVariants.{Nothing}
use Rattle.machine.specs.DeviceStep.{advances}
use Rattle.machine.specs.Effect.{Effect, applied, items_of}
use Rattle.machine.specs.EffectLaws.{IsSameShape}
use Rattle.machine.specs.Outcome.{disk_failed}
use Rattle.machine.specs.Seen.{Seen, state_of, all_marks, failed_at, is_flushed_at, marks_at}
use Rattle.machine.specs.Sound.{IsSound}
use Rattle.machine.specs.State.{DeviceState, MachineState}
use Rattle.machine.specs.Step.{HasEffect}
use Rattle.machine.specs.declared.kind.Kind.{Kind}
use Rattle.machine.specs.declared.kind.Kind.TheVariants.{Block, Outside}
use Rattle.machine.specs.declared.event.Event.TheVariants.{Step}
use Rattle.machine.specs.declared.reply.Reply.{Reply}
use Rattle.machine.specs.declared.reply.Reply.TheVariants.{DiskFailed, Moved}

-- The k-th outstanding request, from 0, flushes the disk next. Only a block device has any. No step flushes a disk outside, and none owes that
-- something is durable: what a host has to do for such a disk is in the calls that it is handed (`specs/Outside`).
abbrev pub kind_flushes : Kind → ℕ → Bool
kind_flushes (Block block) k = flushes_at block k
kind_flushes (Outside block) k = false
kind_flushes kind k = false

abbrev pub kind_owed : ℕ → Kind → ℕ → SyncOwed
kind_owed features (Block block) k = owed_at features block k
kind_owed features (Outside block) k = Nothing
kind_owed features kind k = Nothing

abbrev pub kind_flush_failed : Kind → ℕ → Kind
kind_flush_failed (Block block) k = Block (flush_failed block k)
kind_flush_failed (Outside block) k = Outside block
kind_flush_failed kind k = kind

-- The step of this pick flushes the disk of the device: it advances a request whose next unit is a flush.
abbrev pub flushes : DeviceState → ℕ → Bool
flushes d pick = advances d pick && kind_flushes d.kind (pick - 1)

-- After such a step, if it answered that this is done, the disk is flushed.
abbrev pub HasFlushed : DeviceState → ℕ → Reply → Bool → Type 0
HasFlushed d pick reply is_flushed = flushes d pick ≡ true → reply ≡ Moved → IsTrue is_flushed

abbrev pub flushes_if : Option DeviceState → ℕ → Bool
flushes_if None pick = false
flushes_if (Some d) pick = flushes d pick

abbrev pub makes_flush : MachineState → ℕ → ℕ → Bool
makes_flush m dev pick = flushes_if (slice_get m.devices dev) pick

-- What the step of this pick owes before it is made (VIRTIO 1.2, 5.2.6.2).
abbrev pub owed : DeviceState → ℕ → SyncOwed
owed d pick = if advances d pick then kind_owed d.registers.common.features d.kind (pick - 1) else Nothing

-- The device after that step, if its disk failed. Where the step makes no flush, the device stays as it is.
abbrev pub with_flush_failed : DeviceState → ℕ → DeviceState
with_flush_failed d pick = if advances d pick then record d { kind = kind_flush_failed d.kind (pick - 1) } else d

-- The step of this pick was made as one whose disk failed: it has that reply and that effect. But the disk was not called, so the
-- marks of all disks are as they were, with their counts of failures. No page and no sector was written.
pub record FailsFlush (old : Seen) (dev pick : ℕ) (new : Seen) : Type 0 where
  pub effect : Effect
  pub has : HasEffect (state_of old) (Step dev pick) disk_failed DiskFailed effect
  pub changed : state_of new ≡ applied (state_of old) effect
  pub untouched : items_of effect ≡ []
  pub memory : new.memory ≡ old.memory
  pub marks : all_marks new ≡ all_marks old
  pub shape : IsSameShape (state_of old) (state_of new)
  pub sound : IsSound (state_of new)

-- If that step makes no flush, nothing changed.
abbrev pub FailsFlushIf : Bool → Seen → ℕ → ℕ → Seen → Type 0
FailsFlushIf true old dev pick new = FailsFlush old dev pick new
FailsFlushIf false old dev pick new = new ≡ old

-- One flush of the disk of a device, beside all steps. The machine stays as it was, with any disk. After an Ok the disk is flushed; an
-- error counts one more failure of that disk, which is not steady then. A device without a disk, and one that is not there, has nothing to
-- flush. Other devices, and what is seen of their disks, stay as they were.
pub record FlushesDisk {T E : Type 0} (old : Seen) (dev : ℕ) (result : Result T E) (new : Seen) : Type 0 where
  pub memory : new.memory ≡ old.memory
  pub state : state_of new ≡ state_of old
  pub marks : OnOk result (all_marks new ≡ all_marks old)
  pub failed : OnErr result (all_marks new ≡ failed_at (all_marks old) dev)
  pub unsteady : OnErr result ((marks_at (all_marks old) dev).steady ≡ false)
  pub flushed : OnOk result (IsTrue (is_flushed_at new dev))
  pub others : (k : ℕ) → k ≢ dev → slice_get new.devices k ≡ slice_get old.devices k
