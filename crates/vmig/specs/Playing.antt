-- What `run` does: a trace is played on a fresh machine, and the line of each reply is written.
use Rattle.std.specs.Prelude.{◌≡◌, ◌≢◌, ◌⊎◌, ℕ, List, [], ◌∷◌, false, length, flat_map, map, if◌then◌else◌, Option, Some, None, MatchOption}
use Rattle.std.specs.List.{list_any}
use Rattle.blk.specs.Sectors.{Sector}
use Rattle.machine.specs.Seen.{Seen, state_of}
use Rattle.machine.specs.State.{MachineState}
use Rattle.machine.specs.First.{first_machine}
use Rattle.sender.specs.History.{is_fault}
use Rattle.sender.specs.Ran.{Ran, WasServed}
use Rattle.sender.specs.declared.event.LiveEvent.{LiveEvent}
use Rattle.sender.specs.declared.event.LiveReply.{LiveReply}
use Rattle.traces.specs.Trace.{Contents, IsTrace, Refuses as RefusesText}
use Rattle.traces.specs.Replies.{live_reply_line}
use Rattle.traces.specs.declared.trace.TraceError.{TraceError}
use Rattle.wire.specs.Sinks.{SinkState, over_writer}
use Rattle.vmig.specs.Allowing.{trace_refusal}
use Rattle.vmig.specs.Faults.{TellsOfFile, trace_fault, shape_fault}
use Rattle.vmig.specs.declared.fault.Fault.{Fault}
use Rattle.vmig.specs.declared.fault.Fault.TheVariants.{NoMemory, Line, StreamOut}

-- These are replies of the machine to the events, with some writer to which it is migrated.
pub record ArePlayed (m : MachineState) (events : List LiveEvent) (replies : List LiveReply) : Type 0 where
  pub last : MachineState
  pub before : SinkState
  pub after : SinkState
  pub ran : Ran m events replies before last after

-- These are replies of a fresh machine of the trace's shape, whose disks hold these sectors, to its events.
abbrev pub AreReplies : Contents → List (List Sector) → List LiveReply → Type 0
AreReplies c disks replies = ArePlayed (first_machine c.pages c.shapes disks) c.events replies

-- Each event of the list has a reply: that of a call of a migration of this machine to this writer, and each call begins where the one
-- before it ended. So it is whatever the disks and the writer are.
pub record AreAnswers (machine : Seen) (out : SinkState) (events : List LiveEvent) (replies : List LiveReply) : Type 0 where
  pub last : Seen
  pub after : SinkState
  pub served : ¬ (replies ≡ []) → WasServed machine out events replies last after
  pub each : length replies ≡ length events

-- The same of a fresh machine of the trace's shape, whose disks hold these sectors.
pub record AreAnswersOver (c : Contents) (disks : List (List Sector)) (out : SinkState) (replies : List LiveReply) : Type 0 where
  pub machine : Seen
  pub fresh : state_of machine ≡ first_machine c.pages c.shapes disks
  pub answers : AreAnswers machine out c.events replies

-- The writer of a run: it is over a file where the stream has a name, and holds nothing yet where it has none. `contents` is what is
-- known of what a file holds.
abbrev pub IsOutput : {F : Type 0} → (F → Option (List ℕ)) → Option (List ℕ) → SinkState → Type 0
IsOutput contents None out = out ≡ over_writer (Some []) 0 false
IsOutput {F} contents (Some stream) out = (file : F) × (out ≡ over_writer (contents file) 0 false)

-- The replies of a run over an image of this name, whose sectors nobody knows, or over no disk.
abbrev pub AreAnswersFor : Option (List ℕ) → (SinkState → Type 0) → Contents → List LiveReply → Type 0
AreAnswersFor None Is c replies = (out : SinkState) × Is out × AreAnswersOver c [] out replies
AreAnswersFor (Some image) Is c replies = (sectors : List (List ℕ)) × (out : SinkState) × Is out × AreAnswersOver c (map Some sectors ∷ []) out replies

-- How a run ends after its replies: if one says that the writer failed, the stream could not be written.
abbrev pub ending_of : List LiveReply → Option Fault
ending_of replies = if list_any is_fault replies then Some StreamOut else None

-- A trace that begins to migrate its machine needs a stream.
abbrev pub MayPlay : Option (List ℕ) → Contents → Type 0
MayPlay None c = c.begin_line ≡ 0
MayPlay (Some stream) c = Unit {0}

-- The text is a trace, and these are the lines of such replies to it, in order. Its machine has no disk.
pub record AreReplyLines (stream : Option (List ℕ)) (text : List ℕ) (ending : Option Fault) (lines : List ℕ) : Type 0 where
  pub contents : Contents
  pub trace : IsTrace text contents
  pub may : MayPlay stream contents
  pub replies : List LiveReply
  pub answered : AreReplies contents [] replies
  pub spelled : lines ≡ flat_map live_reply_line replies
  pub ends : ending ≡ ending_of replies

-- The text is a trace, and these are the lines of replies to its events, each that of a call, from a fresh machine over some sectors
-- on. No contract says what the file of an image holds, and so which sectors these are and what a read of one gives.
pub record AreLinesOverImage (stream : Option (List ℕ)) (text : List ℕ) (ending : Option Fault) (lines : List ℕ) : Type 0 where
  pub contents : Contents
  pub trace : IsTrace text contents
  pub may : MayPlay stream contents
  pub replies : List LiveReply
  pub sectors : List (List ℕ)
  pub out : SinkState
  pub answered : AreAnswersOver contents (map Some sectors ∷ []) out replies
  pub spelled : lines ≡ flat_map live_reply_line replies
  pub ends : ending ≡ ending_of replies

-- What is written for a text, over the image of this name or over no disk, with this stream or none.
abbrev pub AreLinesOver : Option (List ℕ) → Option (List ℕ) → List ℕ → Option Fault → List ℕ → Type 0
AreLinesOver None stream text ending lines = AreReplyLines stream text ending lines
AreLinesOver (Some image) stream text ending lines = AreLinesOverImage stream text ending lines

-- What a fault says of a trace that has no stream: it names the first line that begins to migrate the machine.
abbrev pub TellsOfBegin : Option (List ℕ) → Contents → Fault → Type 0
TellsOfBegin None c fault = (c.begin_line ≢ 0) × (fault ≡ Line c.begin_line)
TellsOfBegin (Some stream) c fault = ⊥

-- What a fault says of a trace whose machine was to get disks of these sizes: there is no such machine, or else memory was
-- refused.
abbrev pub TellsOfTrace : Contents → List ℕ → Fault → Type 0
TellsOfTrace c sizes fault = MatchOption (trace_refusal c.pages c.shapes sizes) (fault ≡ NoMemory) (λ refusal. fault ≡ shape_fault refusal)

-- What a fault says of the stream: it could not be made.
abbrev pub TellsOfOut : Option (List ℕ) → Fault → Type 0
TellsOfOut None fault = ⊥
TellsOfOut (Some stream) fault = TellsOfFile stream fault

-- What a fault says of a trace that is to be played with a stream: it is about its machine or, if there is such a machine,
-- about the stream.
abbrev pub TellsOfSending : Option (List ℕ) → Contents → List ℕ → Fault → Type 0
TellsOfSending stream c sizes fault = TellsOfTrace c sizes fault ⊎ ((trace_refusal c.pages c.shapes sizes ≡ None) × TellsOfOut stream fault)

-- What a fault says of a trace over an image: the file is no image of a disk, or the fault is about the trace over a disk of
-- some number of sectors.
abbrev pub TellsOver : Option (List ℕ) → Option (List ℕ) → Contents → Fault → Type 0
TellsOver None stream c fault = TellsOfSending stream c [] fault
TellsOver (Some image) stream c fault = TellsOfFile image fault ⊎ ((sectors : ℕ) × TellsOfSending stream c (sectors ∷ []) fault)

-- What a fault says of a trace: it has no stream, or it could not be played.
abbrev pub TellsOfContents : Option (List ℕ) → Option (List ℕ) → Contents → Fault → Type 0
TellsOfContents image stream c fault = TellsOfBegin stream c fault ⊎ (MayPlay stream c × TellsOver image stream c fault)

-- What a fault says of a text: it is no trace, or the fault is about the trace.
abbrev pub TellsOfText : Option (List ℕ) → Option (List ℕ) → List ℕ → Fault → Type 0
TellsOfText image stream text fault = ((refusal : TraceError) × RefusesText text refusal × (fault ≡ trace_fault refusal)) ⊎ ((c : Contents) × IsTrace text c × TellsOfContents image stream c fault)
