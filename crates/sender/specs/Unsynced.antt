-- Flushes beside all steps, and flushes that fail in place of their step, while the machine is migrated.
use Rattle.std.specs.Prelude.{◌≡◌, ◌≢◌, ℕ, List, Bool, true, false, Result, Ok, Err, MatchOption}
use Rattle.blk.specs.declared.disk.DiskFault.{DiskFault}
use Rattle.machine.specs.Effect.{Effect}
use Rattle.machine.specs.State.{MachineState}
use Rattle.machine.specs.Unsynced.{FailsFlush, FlushesDisk, makes_flush}
use Rattle.machine.specs.declared.event.Event.TheVariants.{Step}
use Rattle.machine.specs.declared.reply.Reply.TheVariants.{DiskFailed}
use Rattle.wire.specs.Sinks.{SinkState}
use Rattle.sender.specs.Follows.{Relates}
use Rattle.sender.specs.History.{History, text, then_came}
use Rattle.sender.specs.LiveState.{HasPlaces, LiveSeen, now, refusal_for}
use Rattle.sender.specs.Taking.{untaken}
use Rattle.sender.specs.declared.event.LiveEvent.TheVariants.{Guest}
use Rattle.sender.specs.declared.event.LiveReply.TheVariants as r
use Rattle.sender.specs.declared.mig_error.MigError.{MigError}
use Rattle.sender.specs.declared.phase.Phase.TheVariants as phases

-- The flush of the machine failed. It wrote no item, so none became dirty, and nothing else changed.
pub record FailsLiveFlush (old : LiveSeen) (dev pick : ℕ) (new : LiveSeen) : Type 0 where
  pub failed : FailsFlush old.machine dev pick new.machine
  pub rest : new ≡ record old { machine = new.machine }

abbrev pub FailsLiveFlushIf : Bool → LiveSeen → ℕ → ℕ → LiveSeen → Type 0
FailsLiveFlushIf true old dev pick new = FailsLiveFlush old dev pick new
FailsLiveFlushIf false old dev pick new = new ≡ old

-- The result says whether the step of this pick flushes a disk.
abbrev pub AnswersFlush : LiveSeen → ℕ → ℕ → Result Bool MigError → LiveSeen → Type 0
AnswersFlush old dev pick (Ok was) new = (was ≡ makes_flush (now old) dev pick) × FailsLiveFlushIf was old dev pick new
AnswersFlush old dev pick (Err e) new = ⊥

-- The call: the phase refuses it as it refuses the step, and nothing changes, or it is answered.
abbrev pub TriesFlush : LiveSeen → ℕ → ℕ → Result Bool MigError → LiveSeen → Type 0
TriesFlush old dev pick result new = MatchOption (refusal_for old.phase (Guest (Step dev pick))) (AnswersFlush old dev pick result new) (λ x. (result ≡ Err x) × (new ≡ old))

-- The history continues with that step and the reply that the disk failed, and nothing is written.
pub record FailureGoesOn (m : MachineState) (h : History) (out : SinkState) (dev pick : ℕ) (new : LiveSeen) : Type 0 where
  pub effect : Effect
  pub relates : Relates m (then_came h (Guest (Step dev pick)) (r.Guest DiskFailed) effect) out new
  pub text_is : text m (then_came h (Guest (Step dev pick)) (r.Guest DiskFailed) effect) ≡ text m h

abbrev pub FailureFollows : Type 0
FailureFollows = (m : MachineState) (h : History) (out : SinkState) (dev pick : ℕ) (old new : LiveSeen) → Relates m h out old → HasPlaces old → old.phase ≢ phases.Stopped → FailsLiveFlush old dev pick new → FailureGoesOn m h out dev pick new

-- The same if part of the stream was taken out of the writer before.
abbrev pub TakenFailureFollows : Type 0
TakenFailureFollows = (m : MachineState) (h : History) (out : SinkState) (taken : List ℕ) (dev pick : ℕ) (old new : LiveSeen) → Relates m h out (untaken taken old) → HasPlaces old → old.phase ≢ phases.Stopped → FailsLiveFlush old dev pick new
    → FailureGoesOn m h out dev pick (untaken taken new)

-- One flush of the disk of a device, beside all steps: the machine is as it was, and so is all else, in each phase.
pub record FlushesLiveDisk {T E : Type 0} (old : LiveSeen) (dev : ℕ) (result : Result T E) (new : LiveSeen) : Type 0 where
  pub flushes : FlushesDisk old.machine dev result new.machine
  pub rest : new ≡ record old { machine = new.machine }

-- It is no part of the history, which stays as it was.
abbrev pub FlushFollows : Type 0
FlushFollows = (m : MachineState) (h : History) (out : SinkState) (dev : ℕ) (result : Result (Unit {0}) DiskFault) (old new : LiveSeen) → Relates m h out old → FlushesLiveDisk old dev result new → Relates m h out new
