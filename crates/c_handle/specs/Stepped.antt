-- What a step returns to C, and what a device sends.
use Rattle.std.specs.Prelude.{◌≡◌, ◌≤◌, ◌<◌, ℕ, ◌-◌, ◌==◌, if◌then◌else◌, nat_lt, List, [], ◌++◌, Bool, true, false, Option, Some, None, length, drop, slice_get}
use Rattle.blk.specs.declared.durable.SyncOwed.{SyncOwed}
use Rattle.blk.specs.declared.durable.SyncOwed.TheVariants as owed
use Rattle.chains.specs.declared.looking.Wanted.{Wanted}
use Rattle.chains.specs.declared.looking.Wanted.TheVariants as wanted
use Rattle.guestmem.specs.Maybe.{after_if}
use Rattle.machine.specs.Applied.{IsAppliedLogged}
use Rattle.machine.specs.DeviceStep.{wanted_of}
use Rattle.machine.specs.Seen.{Seen, state_of}
use Rattle.machine.specs.State.{DeviceState}
use Rattle.machine.specs.declared.event.Event.TheVariants.{Step}
use Rattle.machine.specs.declared.kind.Kind.{Kind}
use Rattle.machine.specs.declared.reply.Reply.{Reply}
use Rattle.machine.specs.declared.reply.Reply.TheVariants.{DiskFailed, Sent}
use Rattle.machine.specs.PageLog.{noted}
use Rattle.sender.specs.Logged.{ServesLogged}
use Rattle.sender.specs.LiveState.{HasPlaces, LiveSeen}
use Rattle.sender.specs.declared.event.LiveReply.{LiveReply}
use Rattle.sender.specs.declared.mig_error.MigError.TheVariants.{AlreadyStopped}
use Rattle.sender.specs.declared.event.LiveReply.TheVariants as live
use Rattle.c_handle.specs.Durable.{FailsKept, owed_lost}
use Rattle.c_handle.specs.Mirror.{is_closed}
use Rattle.c_handle.specs.Refused.{ArePlainIn, IsSameKept}
use Rattle.c_machine.specs.Status.{idle, status_of, too_small}
use Rattle.c_handle.specs.SendStatus.{mig_status, live_status}
use Rattle.c_handle.specs.Told.{live_number}
use Rattle.c_machine.specs.Status.{number_of}
use Rattle.c_handle.specs.Kept.{KeptSeen, State}
use Rattle.c_handle.specs.OnHandle.{ByState, OnLoggedHandle, RefusesBoth}

-- How many bytes a device sends at most for one of the chains that it can use: those of a message, and none of others.
abbrev pub most_of : Wanted → ℕ
most_of wanted.Room = 0
most_of (wanted.Request header) = 0
most_of (wanted.Message form) = form.most - form.header

-- How many bytes a step of this pick may send: that of the queue of messages the longest frame of a network device, 65,536 of a console,
-- and none of others.
abbrev pub most_by : Kind → ℕ → ℕ
most_by kind pick = if pick == 1 then most_of (wanted_of kind 1) else 0

abbrev pub most_sent : Option DeviceState → ℕ → ℕ
most_sent None pick = 0
most_sent (Some d) pick = most_by d.kind pick

abbrev pub most_sent_by : Seen → ℕ → ℕ → ℕ
most_sent_by m dev pick = most_sent (slice_get (state_of m).devices dev) pick

-- The bytes that a reply sends.
abbrev pub sent_in : Reply → List ℕ
sent_in (Sent bytes) = bytes
sent_in _ = []

-- A device did one piece of its work. What it sends is at the front of the buffer, and all that follows is unchanged.
pub record IsStepped (m : Seen) (log : Option (List Bool)) (dev pick status number before : ℕ) (buf new_buf : List ℕ) (after : Seen) (new_log : Option (List Bool)) : Type 0 where
  pub reply : Reply
  pub logged : IsAppliedLogged (after_if noted) m log (Step dev pick) reply after new_log
  pub status_is : status ≡ status_of reply
  pub number_is : number ≡ number_of reply before
  pub sent : new_buf ≡ sent_in reply ++ drop (length (sent_in reply)) buf

-- A step that may send more than the buffer holds is not done.
pub record IsTooSmall (m : Seen) (log : Option (List Bool)) (status number before : ℕ) (buf new_buf : List ℕ) (after : Seen) (new_log : Option (List Bool)) : Type 0 where
  pub status_is : status ≡ too_small
  pub log_same : new_log ≡ log
  pub number_same : number ≡ before
  pub buf_same : new_buf ≡ buf
  pub same : after ≡ m

abbrev pub SteppedIf : Bool → Seen → Option (List Bool) → ℕ → ℕ → ℕ → ℕ → ℕ → List ℕ → List ℕ → Seen → Option (List Bool) → Type 0
SteppedIf true m log dev pick status number before buf new_buf after new_log = IsTooSmall m log status number before buf new_buf after new_log
SteppedIf false m log dev pick status number before buf new_buf after new_log = IsStepped m log dev pick status number before buf new_buf after new_log

abbrev pub Steps : Seen → Option (List Bool) → ℕ → ℕ → ℕ → ℕ → ℕ → List ℕ → List ℕ → Seen → Option (List Bool) → Type 0
Steps m log dev pick status number before buf new_buf after new_log = SteppedIf (nat_lt (length buf) (most_sent_by m dev pick)) m log dev pick status number before buf new_buf after new_log

-- As above, for a machine that is being migrated.
abbrev pub live_sent_in : LiveReply → List ℕ
live_sent_in (live.Guest reply) = sent_in reply
live_sent_in _ = []

pub record IsLiveStepped (l : LiveSeen) (log : Option (List Bool)) (dev pick status number before : ℕ) (buf new_buf : List ℕ) (after : LiveSeen) (new_log : Option (List Bool)) : Type 0 where
  pub reply : LiveReply
  pub places : HasPlaces l
  pub serves : ServesLogged (after_if noted) l log (Step dev pick) reply after new_log
  pub status_is : status ≡ live_status reply
  pub number_is : number ≡ live_number reply before
  pub sent : new_buf ≡ live_sent_in reply ++ drop (length (live_sent_in reply)) buf

-- It was not done, for this reason.
pub record IsLiveUndone (reason : ℕ) (l : LiveSeen) (log : Option (List Bool)) (status number before : ℕ) (buf new_buf : List ℕ) (after : LiveSeen) (new_log : Option (List Bool)) : Type 0 where
  pub status_is : status ≡ reason
  pub log_same : new_log ≡ log
  pub number_same : number ≡ before
  pub buf_same : new_buf ≡ buf
  pub same : after ≡ l

-- A machine that was stopped makes no steps, whatever the buffer.
abbrev pub LiveSteppedIf : Bool → Bool → LiveSeen → Option (List Bool) → ℕ → ℕ → ℕ → ℕ → ℕ → List ℕ → List ℕ → LiveSeen → Option (List Bool) → Type 0
LiveSteppedIf true small l log dev pick status number before buf new_buf after new_log = IsLiveUndone (mig_status AlreadyStopped) l log status number before buf new_buf after new_log
LiveSteppedIf false true l log dev pick status number before buf new_buf after new_log = IsLiveUndone too_small l log status number before buf new_buf after new_log
LiveSteppedIf false false l log dev pick status number before buf new_buf after new_log = IsLiveStepped l log dev pick status number before buf new_buf after new_log

abbrev pub LiveSteps : LiveSeen → Option (List Bool) → ℕ → ℕ → ℕ → ℕ → ℕ → List ℕ → List ℕ → LiveSeen → Option (List Bool) → Type 0
LiveSteps l log dev pick status number before buf new_buf after new_log =
    LiveSteppedIf (is_closed l.phase) (nat_lt (length buf) (most_sent_by l.machine dev pick)) l log dev pick status number before buf new_buf after new_log

abbrev pub StepsKept : State → Option (List Bool) → ℕ → ℕ → ℕ → ℕ → ℕ → List ℕ → List ℕ → State → Option (List Bool) → Type 0
StepsKept k log dev pick status number before buf new_buf next new_log =
    ByState (λ reason. RefusesBoth status number before new_buf buf reason × (new_log ≡ log)) (λ m after. Steps m log dev pick status number before buf new_buf after new_log)
    (λ l after. LiveSteps l log dev pick status number before buf new_buf after new_log) k next

-- A disk that is lost is not flushed: the step that would do so is made as one whose disk failed.
pub record FailsLost (k : State) (log : Option (List Bool)) (dev pick status number before : ℕ) (buf new_buf : List ℕ) (next : State) (new_log : Option (List Bool)) : Type 0 where
  pub log_same : new_log ≡ log
  pub status_is : status ≡ status_of DiskFailed
  pub fails : FailsKept k dev pick status next
  pub number_same : number ≡ before
  pub buf_same : new_buf ≡ buf

-- A write after whose end the driver takes what was written for durable does not end: its step is idle, and nothing changed.
pub record IsLeftOpen (k : State) (log : Option (List Bool)) (status number before : ℕ) (buf new_buf : List ℕ) (next : State) (new_log : Option (List Bool)) : Type 0 where
  pub log_same : new_log ≡ log
  pub status_is : status ≡ idle
  pub number_same : number ≡ before
  pub buf_same : new_buf ≡ buf
  pub same : next ≡ k

-- By what the step owes of a disk that is lost. A step that owes nothing is made as ever.
abbrev pub StepsOwing : SyncOwed → State → Option (List Bool) → ℕ → ℕ → ℕ → ℕ → ℕ → List ℕ → List ℕ → State → Option (List Bool) → Type 0
StepsOwing owed.Nothing k log dev pick status number before buf new_buf next new_log = StepsKept k log dev pick status number before buf new_buf next new_log
StepsOwing owed.Flush k log dev pick status number before buf new_buf next new_log = FailsLost k log dev pick status number before buf new_buf next new_log
StepsOwing owed.EndOfWrite k log dev pick status number before buf new_buf next new_log = IsLeftOpen k log status number before buf new_buf next new_log

-- A step of the machine of a handle.
abbrev pub Stepped : Option KeptSeen → ℕ → ℕ → ℕ → ℕ → ℕ → List ℕ → List ℕ → Option KeptSeen → Type 0
Stepped k dev pick status number before buf new_buf after =
    OnLoggedHandle (RefusesBoth status number before new_buf buf) (λ old next log. StepsOwing (owed_lost old dev pick) old.state old.written dev pick status number before buf new_buf next log) k after

-- A status from 1 to 63 says that the step was refused, or that memory was: nothing changed, no number and no byte is returned, and no page
-- is logged. So it is of a disk that is lost too.
abbrev pub RefusedStepsNothing : Type 0
RefusedStepsNothing = (o : SyncOwed) (k next : State) (log new_log : Option (List Bool)) (dev pick status number before : ℕ) (buf new_buf : List ℕ) → ArePlainIn k → StepsOwing o k log dev pick status number before buf new_buf next new_log → 1 ≤ status → status < 64
    → IsSameKept k next × (number ≡ before) × (new_buf ≡ buf) × (new_log ≡ log)
