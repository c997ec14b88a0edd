-- What `resume` does: a machine arrives from a stream, and the guest's events continue.
use Rattle.std.specs.Prelude.{◌≡◌, ◌⊎◌, ℕ, Bool, List, [], ◌∷◌, map, flat_map, Option, Some, None}
use Rattle.machine.specs.Limits.{IsWithinLimits}
use Rattle.machine.specs.Outcome.{outcome_of}
use Rattle.machine.specs.Run.{IsRun}
use Rattle.machine.specs.Applied.{AreApplied}
use Rattle.machine.specs.Seen.{Marks, Seen, state_of}
use Rattle.machine.specs.State.{MachineState, base_of}
use Rattle.machine.specs.declared.event.Event.{Event}
use Rattle.machine.specs.declared.reply.Reply.{Reply}
use Rattle.receiver.specs.Receiving.{IsArrived, RefusesSlice}
use Rattle.receiver.specs.declared.recv_error.RecvError.{RecvError}
use Rattle.traces.specs.Trace.{HoldsEvents, RefusesEvents}
use Rattle.traces.specs.Replies.{reply_line}
use Rattle.traces.specs.declared.trace.TraceError.{TraceError}
use Rattle.wire.specs.Stream.{IsStream}
use Rattle.vmig.specs.Allowing.{program_limits, program_terms}
use Rattle.vmig.specs.Faults.{TellsOfFile, stream_fault, trace_fault}
use Rattle.vmig.specs.declared.fault.Fault.{Fault}

-- The machine of some stream, whose RAM begins at the address 0, and whose disks may be outside or not. No contract says what the file of
-- a stream holds.
pub record HasArrived (outside : Bool) (machine : MachineState) : Type 0 where
  pub bytes : List ℕ
  pub stream : IsStream bytes machine
  pub based : base_of machine.devices ≡ 0
  pub within : IsWithinLimits (program_limits outside) machine

-- These are the replies of such a machine to the events, each event with the outcome of its reply.
pub record AreResumed (outside : Bool) (events : List Event) (replies : List Reply) : Type 0 where
  pub machine : MachineState
  pub arrived : HasArrived outside machine
  pub last : MachineState
  pub run : IsRun machine events (map outcome_of replies) replies last

-- A machine with the RAM, the devices and the bad sectors of some stream, whose RAM begins at the address 0. What the good sectors
-- hold no contract says, as none says what the file of an image holds.
pub record HasArrivedOver (outside : Bool) (machine : MachineState) : Type 0 where
  pub bytes : List ℕ
  pub arrived : IsArrived bytes machine
  pub based : base_of machine.devices ≡ 0
  pub within : IsWithinLimits (program_limits outside) machine

-- These are the replies of such a machine to the events, each applied to what the one before it left.
pub record AreResumedOverImage (outside : Bool) (events : List Event) (replies : List Reply) : Type 0 where
  pub machine : Seen
  pub arrived : HasArrivedOver outside (state_of machine)
  pub last : Seen
  pub applied : AreApplied machine events replies last

-- The text is events, and these are the lines of such replies to them, in order. The machine has no disk.
pub record AreResumedLines (outside : Bool) (text lines : List ℕ) : Type 0 where
  pub events : List Event
  pub holds : HoldsEvents text events
  pub replies : List Reply
  pub answered : AreResumed outside events replies
  pub spelled : lines ≡ flat_map reply_line replies

-- The text is events, and these are the lines of the replies of a machine that arrived over an image.
pub record AreResumedLinesOverImage (outside : Bool) (text lines : List ℕ) : Type 0 where
  pub events : List Event
  pub holds : HoldsEvents text events
  pub replies : List Reply
  pub answered : AreResumedOverImage outside events replies
  pub spelled : lines ≡ flat_map reply_line replies

-- What is written for a text, over the image of this name or over no disk.
abbrev pub AreResumedOver : Bool → Option (List ℕ) → List ℕ → List ℕ → Type 0
AreResumedOver outside None text lines = AreResumedLines outside text lines
AreResumedOver outside (Some image) text lines = AreResumedLinesOverImage outside text lines

-- What a fault says of a text of events: the text is refused.
pub record TellsOfEvents (text : List ℕ) (fault : Fault) : Type 0 where
  pub refusal : TraceError
  pub refused : RefusesEvents text refusal
  pub is : fault ≡ trace_fault refusal

-- What a fault says of some bytes that were received for RAM that begins at the address 0, over disks of these sizes and marks: they are refused.
pub record TellsOfPieces (outside : Bool) (sizes : List ℕ) (marks : List Marks) (fault : Fault) : Type 0 where
  pub bytes : List ℕ
  pub refusal : RecvError
  pub refused : RefusesSlice (program_terms outside) sizes marks bytes refusal
  pub is : fault ≡ stream_fault refusal

-- What a fault says of the stream in the file of this name: it could not be read, or it is refused; or memory was.
abbrev pub TellsOfArrival : Bool → List ℕ → List ℕ → List Marks → Fault → Type 0
TellsOfArrival outside stream sizes marks fault = TellsOfFile stream fault ⊎ TellsOfPieces outside sizes marks fault

-- As above, over an image: the file is no image of a disk, or the fault is about the stream over a disk of some number of
-- sectors. Without an image there is no disk.
abbrev pub TellsOfStreamOver : Bool → Option (List ℕ) → List ℕ → Fault → Type 0
TellsOfStreamOver outside None stream fault = TellsOfArrival outside stream [] [] fault
TellsOfStreamOver outside (Some image) stream fault = TellsOfFile image fault ⊎ ((sectors : ℕ) × (marks : Marks) × TellsOfArrival outside stream (sectors ∷ []) (marks ∷ []) fault)

-- What a fault says of a text: it is no events, or there is no machine to play them on.
abbrev pub TellsOfResuming : Bool → Option (List ℕ) → List ℕ → List ℕ → Fault → Type 0
TellsOfResuming outside image stream text fault = TellsOfEvents text fault ⊎ ((events : List Event) × HoldsEvents text events × TellsOfStreamOver outside image stream fault)
