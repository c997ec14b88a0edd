-- The machine and the writer after a list of live events.
--
-- That a disk that is reported as failed is not steady has no premise, for the guest's replies and for the copies alike.
use Rattle.std.specs.Prelude.{◌≡◌, ◌++◌, ◌⊎◌, ℕ, List, [], ◌∷◌, length, true, false, IsTrue}
use Rattle.dirtylog.specs.Members.{HasNone}
use Rattle.machine.specs.Applied.{FailsOnlyUnsteady}
use Rattle.machine.specs.Effect.{Effect}
use Rattle.machine.specs.Seen.{Marks, Seen, marks_at}
use Rattle.machine.specs.State.{MachineState}
use Rattle.machine.specs.declared.reply.Reply.{Reply}
use Rattle.wire.specs.Sinks.{Covers, SinkState}
use Rattle.wire.specs.Stream.{IsStream}
use Rattle.sender.specs.declared.phase.Phase.TheVariants as phases
use Rattle.sender.specs.Calls.{Serves}
use Rattle.sender.specs.Follows.{count_after}
use Rattle.sender.specs.History.{AllAllowed, History, has_fault, machine_after, nothing, onward, phase_of, text}
use Rattle.sender.specs.LiveState.{HasPlaces, LiveSeen}
use Rattle.sender.specs.Told.{IsStreamAsTold}
use Rattle.sender.specs.declared.event.LiveEvent.{LiveEvent}
use Rattle.sender.specs.declared.event.LiveEvent.TheVariants.{Guest}
use Rattle.sender.specs.declared.event.LiveReply.{LiveReply}
use Rattle.sender.specs.declared.event.LiveReply.TheVariants as r
use Rattle.sender.specs.declared.mig_error.MigError.{MigError}
use Rattle.sender.specs.declared.mig_error.MigError.TheVariants as errors

-- The machine and the writer after a history: the machine is the one after it, every reply is allowed, and the writer's count
-- of failures rose if a reply says that the writer failed. If none does and the writer was honest, it holds the text of the
-- history after what it held. Once a stop answered Ok this text is a stream of the machine, and the writer was flushed.
pub record Leaves (m : MachineState) (h : History) (old : SinkState) (last : MachineState) (new : SinkState) : Type 0 where
  pub machine : last ≡ machine_after m h
  pub allowed : AllAllowed m h
  pub count : new.failures ≡ count_after old.failures (has_fault h)
  pub held : has_fault h ≡ false → IsTrue old.honest → IsTrue new.honest × (new.held ≡ old.held ++ text m h)
  pub stream : phase_of h ≡ phases.Stopped → (has_fault h ≡ false) × IsStream (text m h) last
  pub flushed : phase_of h ≡ phases.Stopped → new.is_flushed ≡ true

-- These events got these replies, and for each reply there is an effect: what the event changed in the machine.
pub record Ran (m : MachineState) (events : List LiveEvent) (replies : List LiveReply) (old : SinkState) (last : MachineState) (new : SinkState) : Type 0 where
  pub effects : List Effect
  pub as_many : length effects ≡ length replies
  pub leaves : Leaves m (onward nothing events replies effects) old last new

-- The calls that have a reply were served, one after another.
abbrev pub CallsServed : LiveSeen → List LiveEvent → List LiveReply → LiveSeen → Type 0
CallsServed old events [] new = new ≡ old
CallsServed old (e ∷ events) (reply ∷ replies) new = (mid : LiveSeen) × Serves old e reply mid × CallsServed mid events replies new
CallsServed old [] replies new = ⊥

-- A migration of this machine to this writer, before its first call.
pub record IsUnserved (machine : Seen) (out : SinkState) (s : LiveSeen) : Type 0 where
  pub machine_is : s.machine ≡ machine
  pub fresh : s.phase ≡ phases.Fresh
  pub none_due : HasNone s.due
  pub none_dirty : HasNone s.dirty
  pub digest : Covers s.digest []
  pub out_is : s.out ≡ out
  pub places : HasPlaces s

-- Each reply is that of its call, and the machine and the writer are as the last of these calls left them. So all that a call
-- promises with any disks holds of each.
pub record WasServed (machine : Seen) (out : SinkState) (events : List LiveEvent) (replies : List LiveReply) (last : Seen) (new : SinkState) : Type 0 where
  pub before : LiveSeen
  pub after : LiveSeen
  pub unserved : IsUnserved machine out before
  pub served : CallsServed before events replies after
  pub machine_is : last ≡ after.machine
  pub out_is : new ≡ after.out

-- Each event was answered, or none was, where memory was refused.
abbrev pub AllOrNone : List LiveEvent → List LiveReply → Type 0
AllOrNone events replies = (length replies ≡ length events) ⊎ (replies ≡ [])

-- A stop answered Ok.
abbrev pub HasStopped : List LiveReply → Type 0
HasStopped [] = ⊥
HasStopped (r.Stopped pages sectors ∷ replies) = Unit {0}
HasStopped (_ ∷ replies) = HasStopped replies

-- The writer did not fail and was flushed, and what it holds after what it held, if it was honest, is a stream of a machine with the
-- RAM and the devices of this one.
pub record WroteStream (old : SinkState) (last : MachineState) (new : SinkState) : Type 0 where
  pub bytes : List ℕ
  pub stream : IsStreamAsTold bytes last
  pub held : IsTrue old.honest → IsTrue new.honest × (new.held ≡ old.held ++ bytes)
  pub flushed : new.is_flushed ≡ true

-- A reply that reports a failed disk, in a step of the guest or for a sector that was to be sent, names a device whose disk is
-- not steady.
abbrev pub GuestNames : List Marks → LiveEvent → Reply → Type 0
GuestNames marks (Guest e) reply = FailsOnlyUnsteady marks e reply
GuestNames marks _ reply = Unit {0}

abbrev pub MigNames : List Marks → MigError → Type 0
MigNames marks (errors.DiskFailed dev n) = (marks_at marks dev).steady ≡ false
MigNames marks _ = Unit {0}

abbrev pub NamesUnsteady : List Marks → LiveEvent → LiveReply → Type 0
NamesUnsteady marks e (r.Guest reply) = GuestNames marks e reply
NamesUnsteady marks e (r.Mig x) = MigNames marks x
NamesUnsteady marks e _ = Unit {0}

abbrev pub AllNameUnsteady : List Marks → List LiveEvent → List LiveReply → Type 0
AllNameUnsteady marks (e ∷ es) (reply ∷ replies) = NamesUnsteady marks e reply × AllNameUnsteady marks es replies
AllNameUnsteady marks es replies = Unit {0}
