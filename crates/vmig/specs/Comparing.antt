-- What `rehearse` does: the machine of a trace is migrated while the trace is played, over disks of zeros in memory, and
-- compared with the one that arrived. It writes the lines of the replies of the machine that is migrated, and then the result.
use Rattle.std.specs.Prelude.{◌≡◌, ◌⊎◌, ℕ, List, [], ◌++◌, codes, flat_map, map, All, IsTrue, Option, Some, None, MatchOption}
use Rattle.machine.specs.First.{first_machine}
use Rattle.machine.specs.Lines.{lines_of}
use Rattle.machine.specs.Outcome.{outcome_of}
use Rattle.machine.specs.Seen.{Marks, Seen, all_marks, state_of}
use Rattle.machine.specs.Shapes.{disk_sizes}
use Rattle.machine.specs.State.{MachineState}
use Rattle.machine.specs.declared.reply.Reply.{Reply}
use Rattle.receiver.specs.declared.recv_error.RecvError.{RecvError}
use Rattle.receiver.specs.declared.recv_error.RecvError.TheVariants as recv_error
use Rattle.rehearsal.specs.Rehearsing.{IsArrival, IsNotStopped, IsRefused, IsRehearsal}
use Rattle.rehearsal.specs.declared.rehearsing.Rehearsal.{Rehearsal}
use Rattle.sender.specs.declared.event.LiveEvent.{LiveEvent}
use Rattle.sender.specs.declared.event.LiveReply.{LiveReply}
use Rattle.traces.specs.Trace.{Contents, IsTrace, Refuses as RefusesText}
use Rattle.traces.specs.Replies.{live_reply_line, newline}
use Rattle.traces.specs.declared.trace.TraceError.{TraceError}
use Rattle.vmig.specs.Allowing.{trace_refusal}
use Rattle.vmig.specs.Checking.{zero_disks}
use Rattle.vmig.specs.Faults.{shape_fault, stream_fault, trace_fault}
use Rattle.vmig.specs.declared.comparing.Verdict.{Verdict}
use Rattle.vmig.specs.declared.comparing.Verdict.TheVariants.{Equal, Differ, NoStop, Refused}
use Rattle.vmig.specs.declared.fault.Fault.{Fault}
use Rattle.vmig.specs.declared.fault.Fault.TheVariants.{NoMemory, NotEqual}

-- Every disk gives what was written to it, and never fails.
abbrev pub AreSteady : List Marks → Type 0
AreSteady marks = All (λ m. IsTrue m.honest × IsTrue m.steady) marks

-- The fresh machine of a trace, over disks of zeros in memory.
pub record IsFreshMachine (c : Contents) (machine : Seen) : Type 0 where
  pub exists : trace_refusal c.pages c.shapes (disk_sizes c.shapes) ≡ None
  pub state : state_of machine ≡ first_machine c.pages c.shapes (map (λ d. map Some d) (zero_disks c.shapes))
  pub steady : AreSteady (all_marks machine)

-- Two machines have the same interrupt lines, RAM and sectors.
pub record LookAlike (a b : MachineState) : Type 0 where
  pub lines : lines_of a.devices ≡ lines_of b.devices
  pub ram : a.ram ≡ b.ram
  pub disks : a.disks ≡ b.disks

-- The machine arrived, and both machines played the remaining events and gave these replies.
pub record HasMoved (machine : Seen) (c : Contents) (replies : List LiveReply) (source arrived : Seen) (arrived_replies : List Reply) : Type 0 where
  pub marks : List Marks
  pub steady : AreSteady marks
  pub arrival : IsArrival machine c.events (disk_sizes c.shapes) marks source arrived replies arrived_replies

-- They gave the same replies, and have the same interrupt lines, RAM and sectors.
pub record AreEqual (machine : Seen) (c : Contents) (replies : List LiveReply) : Type 0 where
  pub source : Seen
  pub arrived : Seen
  pub arrived_replies : List Reply
  pub moved : HasMoved machine c replies source arrived arrived_replies
  pub answers : arrived_replies ≡ moved.arrival.rest
  pub alike : LookAlike (state_of source) (state_of arrived)

-- They had other outcomes: memory was refused to one of them where it was not to the other.
pub record DoDiffer (machine : Seen) (c : Contents) (replies : List LiveReply) : Type 0 where
  pub source : Seen
  pub arrived : Seen
  pub arrived_replies : List Reply
  pub moved : HasMoved machine c replies source arrived arrived_replies
  pub otherwise : ¬ (map outcome_of arrived_replies ≡ map outcome_of moved.arrival.rest)

-- No stop answered Ok.
pub record IsUnmoved (machine : Seen) (c : Contents) (replies : List LiveReply) : Type 0 where
  pub source : Seen
  pub not_stopped : IsNotStopped machine c.events source replies

-- The stream was refused. Over such disks the only reason is that memory was refused.
pub record IsLost (machine : Seen) (c : Contents) (replies : List LiveReply) (error : RecvError) : Type 0 where
  pub source : Seen
  pub marks : List Marks
  pub steady : AreSteady marks
  pub refused : IsRefused machine c.events (disk_sizes c.shapes) marks source replies error
  pub memory : error ≡ recv_error.NoMemory

-- The result of the rehearsal.
abbrev pub IsVerdict : Seen → Contents → List LiveReply → Verdict → Type 0
IsVerdict machine c replies Equal = AreEqual machine c replies
IsVerdict machine c replies Differ = DoDiffer machine c replies
IsVerdict machine c replies NoStop = IsUnmoved machine c replies
IsVerdict machine c replies (Refused error) = IsLost machine c replies error

pub record HasVerdict (c : Contents) (replies : List LiveReply) (verdict : Verdict) : Type 0 where
  pub machine : Seen
  pub fresh : IsFreshMachine c machine
  pub verdict_is : IsVerdict machine c replies verdict

-- There is a reply where there is an event: memory was not refused before the first one.
abbrev pub WerePlayed : List LiveEvent → List LiveReply → Type 0
WerePlayed events replies = replies ≡ [] → events ≡ []

-- A refusal of the stream has no line of its own on standard output.
abbrev pub verdict_line : Verdict → List ℕ
verdict_line Equal = codes "equal" ++ newline
verdict_line Differ = codes "differ" ++ newline
verdict_line NoStop = codes "no stop" ++ newline
verdict_line (Refused error) = []

-- The fault that is reported after it: none if the machines are equal.
abbrev pub verdict_ending : Verdict → Option Fault
verdict_ending Equal = None
verdict_ending Differ = Some NotEqual
verdict_ending NoStop = Some NotEqual
verdict_ending (Refused error) = Some (stream_fault error)

-- The text is a trace, and these are the lines of the replies of its machine, in order, and of the result.
pub record AreRehearsedLines (text : List ℕ) (ending : Option Fault) (lines : List ℕ) : Type 0 where
  pub contents : Contents
  pub trace : IsTrace text contents
  pub replies : List LiveReply
  pub verdict : Verdict
  pub judged : HasVerdict contents replies verdict
  pub played : WerePlayed contents.events replies
  pub spelled : lines ≡ flat_map live_reply_line replies ++ verdict_line verdict
  pub ends : ending ≡ verdict_ending verdict

-- What a fault says of a trace before anything is written: there is no such machine, or else memory was refused.
abbrev pub TellsOfRehearsed : Contents → Fault → Type 0
TellsOfRehearsed c fault = MatchOption (trace_refusal c.pages c.shapes (disk_sizes c.shapes)) (fault ≡ NoMemory) (λ refusal. fault ≡ shape_fault refusal)

-- What a fault says of a text: it is no trace, or one that could not be rehearsed.
abbrev pub TellsOfRehearsing : List ℕ → Fault → Type 0
TellsOfRehearsing text fault = ((refusal : TraceError) × RefusesText text refusal × (fault ≡ trace_fault refusal)) ⊎ ((c : Contents) × IsTrace text c × TellsOfRehearsed c fault)

-- What follows is for private contracts alone. The rehearsal of a trace, over such disks on both sides.
pub record IsRehearsed {D E : Type 0} (c : Contents) (rehearsal : Rehearsal D E) : Type 0 where
  pub machine : Seen
  pub fresh : IsFreshMachine c machine
  pub marks : List Marks
  pub steady : AreSteady marks
  pub is : IsRehearsal machine c.events (disk_sizes c.shapes) marks rehearsal
