-- A migration of a machine, rehearsed: the events up to and including the first stop that answers Ok are played on the machine
-- that is being migrated, and the remaining events of the guest on both machines.
use Rattle.std.specs.Prelude.{◌≡◌, ◌≤◌, ℕ, List, [], ◌∷◌, ◌++◌, All, Bool, true, false, drop, length, map}
use Rattle.machine.specs.Applied.{FailOnlyUnsteady, marks_run}
use Rattle.machine.specs.EffectLaws.{IsSameShape}
use Rattle.machine.specs.First.{dealt_marks}
use Rattle.machine.specs.Outcome.{outcome_of}
use Rattle.machine.specs.Run.{IsRun}
use Rattle.machine.specs.Seen.{AreHonest, Marks, Seen, all_marks, marks_at, state_of}
use Rattle.machine.specs.Shapes.{disk_sizes}
use Rattle.machine.specs.State.{MachineState}
use Rattle.machine.specs.declared.event.Event.{Event}
use Rattle.machine.specs.declared.reply.Reply.{Reply}
use Rattle.receiver.specs.Disks.{AreHonestDisks, IsUnsteady}
use Rattle.receiver.specs.declared.recv_error.RecvError.{RecvError}
use Rattle.receiver.specs.declared.recv_error.RecvError.TheVariants as errors
use Rattle.sender.specs.Ran.{AllNameUnsteady, AllOrNone, Ran, WasServed}
use Rattle.sender.specs.Told.{IsStreamAsTold}
use Rattle.sender.specs.declared.event.LiveEvent.{LiveEvent}
use Rattle.sender.specs.declared.event.LiveEvent.TheVariants.{Guest}
use Rattle.sender.specs.declared.event.LiveReply.{LiveReply}
use Rattle.sender.specs.declared.event.LiveReply.TheVariants as r
use Rattle.wire.specs.Sinks.{SinkState}
use Rattle.wire.specs.Stream.{IsStream, shapes_in}
use Rattle.rehearsal.specs.declared.rehearsing.Rehearsal.{Rehearsal}
use Rattle.rehearsal.specs.declared.rehearsing.Rehearsal.TheVariants.{Arrived, NotStopped, Refused}

-- A stop answered Ok: nothing else is answered so.
abbrev pub is_stopped : LiveReply → Bool
is_stopped (r.Stopped pages sectors) = true
is_stopped _ = false

abbrev pub NoneStopped : List LiveReply → Type 0
NoneStopped replies = All (λ reply. is_stopped reply ≡ false) replies

-- The last of these replies is that of a stop that answered Ok, and it is the first such reply.
pub record EndsInStop (replies : List LiveReply) : Type 0 where
  pub before : List LiveReply
  pub last : LiveReply
  pub stopped : is_stopped last ≡ true
  pub first : NoneStopped before
  pub are : replies ≡ before ++ last ∷ []

-- The events of the guest among these, and those that remain after the events that have these replies.
abbrev pub guests_of : List LiveEvent → List Event
guests_of [] = []
guests_of (Guest e ∷ es) = e ∷ guests_of es
guests_of (_ ∷ es) = guests_of es

abbrev pub remaining : List LiveEvent → List LiveReply → List Event
remaining events replies = guests_of (drop (length replies) events)

-- A writer in memory as it begins: it holds nothing, did not fail, is honest, and is not flushed yet.
abbrev pub empty_writer : SinkState
empty_writer = record { held = []; failures = 0; honest = true; is_flushed = false }

-- The machine after the events that have these replies, each of which is allowed after those before it. The writer is in
-- memory: a reply that says it failed says that it was refused memory.
pub record IsAfter (m : MachineState) (events : List LiveEvent) (replies : List LiveReply) (last : MachineState) : Type 0 where
  pub writer : SinkState
  pub ran : Ran m events replies empty_writer last writer

-- The same with any disks: each reply is that of its call.
pub record WereServed (machine : Seen) (events : List LiveEvent) (replies : List LiveReply) (last : Seen) : Type 0 where
  pub writer : SinkState
  pub was : WasServed machine empty_writer events replies last writer

-- A machine that was migrated gave these replies to the first of these events. Only a disk that is not steady is reported as
-- failed, and the disks stay as steady as they were. The machine keeps its shape. If the disks are honest they stay so, and the
-- machine is the one after these events.
pub record HasAnswered (machine : Seen) (events : List LiveEvent) (replies : List LiveReply) (source : Seen) : Type 0 where
  pub few : length replies ≤ length events
  pub unsteady : AllNameUnsteady (all_marks machine) events replies
  pub steady : (dev : ℕ) → (marks_at (all_marks source) dev).steady ≡ (marks_at (all_marks machine) dev).steady
  pub honest : AreHonest machine → AreHonest source
  pub shape : IsSameShape (state_of machine) (state_of source)
  pub served : ¬ (replies ≡ []) → WereServed machine events replies source
  pub after : AreHonest machine → IsAfter (state_of machine) events replies (state_of source)

-- A machine played events of the guest and gave these replies. Only a disk that is not steady is reported as failed. If the
-- disks are honest, it is the machine of a run with the outcomes of these replies.
pub record HasPlayed (old : Seen) (events : List Event) (replies : List Reply) (new : Seen) : Type 0 where
  pub each : length replies ≡ length events
  pub marks : all_marks new ≡ marks_run (all_marks old) events replies
  pub unsteady : FailOnlyUnsteady (all_marks old) events replies
  pub run : AreHonest old → IsRun (state_of old) events (map outcome_of replies) replies (state_of new)

-- The disks are those of the devices that have one, in their order.
abbrev pub DoFit : List ℕ → Seen → Type 0
DoFit sizes machine = sizes ≡ disk_sizes (shapes_in (state_of machine).devices)

-- Why a stream of the machine is refused: the disks do not fit, a disk that is not steady failed, or memory was refused.
abbrev pub TellsWhy : List ℕ → List Marks → Seen → RecvError → Type 0
TellsWhy sizes marks machine errors.ShapeMismatch = ¬ (DoFit sizes machine)
TellsWhy sizes marks machine errors.DiskFailed = DoFit sizes machine × IsUnsteady marks
TellsWhy sizes marks machine errors.NoMemory = DoFit sizes machine
TellsWhy sizes marks machine _ = ⊥

-- No stop answered Ok. Each event was played, or none was, where memory was refused before anything was done.
pub record IsNotStopped (machine : Seen) (events : List LiveEvent) (source : Seen) (replies : List LiveReply) : Type 0 where
  pub none : NoneStopped replies
  pub each : AllOrNone events replies
  pub unplayed : replies ≡ [] → source ≡ machine
  pub answered : HasAnswered machine events replies source

-- A stop answered Ok, and the stream was refused.
pub record IsRefused (machine : Seen) (events : List LiveEvent) (sizes : List ℕ) (marks : List Marks) (source : Seen) (replies : List LiveReply) (error : RecvError) : Type 0 where
  pub stops : EndsInStop replies
  pub answered : HasAnswered machine events replies source
  pub mismatch : ¬ (DoFit sizes machine) → error ≡ errors.ShapeMismatch
  pub unsteady : error ≡ errors.DiskFailed → IsUnsteady marks
  pub why : TellsWhy sizes marks machine error

-- A stop answered Ok, the disks fit, and both machines played the remaining events: the machine that was migrated from its
-- state at the stop, and the machine that arrived from its state on arrival, over the disks that were given. If these are honest,
-- RAM and devices on arrival are those at the stop. If all disks are, so is the whole state: both are runs from there, and if their
-- outcomes are the same, the machines are equal, and so are the replies.
pub record IsArrival (machine : Seen) (events : List LiveEvent) (sizes : List ℕ) (marks : List Marks) (source arrived : Seen) (replies : List LiveReply) (arrived_replies : List Reply) : Type 0 where
  pub played : List LiveReply
  pub rest : List Reply
  pub at_stop : Seen
  pub as_arrived : Seen
  pub are : replies ≡ played ++ map r.Guest rest
  pub stops : EndsInStop played
  pub fits : DoFit sizes machine
  pub answered : HasAnswered machine events played at_stop
  pub source_played : HasPlayed at_stop (remaining events played) rest source
  pub over : all_marks as_arrived ≡ dealt_marks (shapes_in (state_of as_arrived).devices) marks
  pub arrived_played : HasPlayed as_arrived (remaining events played) arrived_replies arrived
  pub same_ram : AreHonestDisks marks → (state_of as_arrived).ram ≡ (state_of at_stop).ram
  pub same_devices : AreHonestDisks marks → (state_of as_arrived).devices ≡ (state_of at_stop).devices
  pub same_start : AreHonest machine → AreHonestDisks marks → state_of as_arrived ≡ state_of at_stop
  pub source_run : AreHonest machine → IsRun (state_of at_stop) (remaining events played) (map outcome_of rest) rest (state_of source)
  pub arrived_run : AreHonest machine → AreHonestDisks marks → IsRun (state_of at_stop) (remaining events played) (map outcome_of arrived_replies) arrived_replies (state_of arrived)
  pub same : AreHonest machine → AreHonestDisks marks → map outcome_of arrived_replies ≡ map outcome_of rest → (arrived_replies ≡ rest) × (state_of arrived ≡ state_of source)

-- The result of a rehearsed migration of this machine with these events, over disks of these sizes and marks.
abbrev pub IsRehearsal : {D E : Type 0} → Seen → List LiveEvent → List ℕ → List Marks → Rehearsal D E → Type 0
IsRehearsal machine events sizes marks (Arrived source arrived replies arrived_replies) = IsArrival machine events sizes marks source arrived replies.items arrived_replies.items
IsRehearsal machine events sizes marks (NotStopped source replies) = IsNotStopped machine events source replies.items
IsRehearsal machine events sizes marks (Refused source replies error) = IsRefused machine events sizes marks source replies.items error

-- What follows is for private contracts alone. A stop answered Ok, and these bytes were written.
pub record HasSentStream (machine : Seen) (events : List LiveEvent) (source : Seen) (replies : List LiveReply) (bytes : List ℕ) : Type 0 where
  pub stops : EndsInStop replies
  pub few : length replies ≤ length events
  pub answered : HasAnswered machine events replies source
  pub stream : AreHonest machine → IsStream bytes (state_of source)
  pub streamed : IsStreamAsTold bytes (state_of source)

-- The machine, its replies and the refusal are these.
abbrev pub IsRefusedWith : {D E : Type 0} → Seen → List LiveReply → RecvError → Rehearsal D E → Type 0
IsRefusedWith at_stop played refusal (Refused source replies error) = (source ≡ at_stop) × (replies.items ≡ played) × (error ≡ refusal)
IsRefusedWith at_stop played refusal _ = ⊥

-- A machine played events of the guest, and its replies follow those before.
pub record PlaysOn (old : Seen) (events : List Event) (before after : List LiveReply) (new : Seen) : Type 0 where
  pub rest : List Reply
  pub are : after ≡ before ++ map r.Guest rest
  pub played : HasPlayed old events rest new

-- Both machines played the events of the guest that remained.
abbrev pub GoOn : {D E : Type 0} → Seen → List LiveReply → Seen → List LiveEvent → Rehearsal D E → Type 0
GoOn at_stop played as_arrived events (Arrived source arrived replies arrived_replies) =
    PlaysOn at_stop (remaining events played) played replies.items source × HasPlayed as_arrived (remaining events played) arrived_replies.items arrived
GoOn at_stop played as_arrived events _ = ⊥
