-- What is promised of the calls of disks outside, whatever a host does.
use Rattle.std.specs.Prelude.{◌≡◌, ℕ, ◌≤◌, ◌<◌, Bool, true, false, List, length, Option, Some, None, slice_get}
use Rattle.blk.specs.declared.outside.DiskCall.{DiskCall}
use Rattle.disk_calls.specs.Calls.{AllCalls, AreNumbered}
use Rattle.disk_calls.specs.Lost.{makes_durable}
use Rattle.disk_calls.specs.Machines.{asked_of}
use Rattle.disk_calls.specs.Numbers.{AreFrom}
use Rattle.disk_calls.specs.declared.calls.Place.{Place}
use Rattle.machine.specs.Outside.{call_with}
use Rattle.machine.specs.State.{DeviceState, MachineState}
use Rattle.machine.specs.declared.event.DiskAnswer.{DiskAnswer}
use Rattle.machine.specs.declared.event.DiskAnswer.TheVariants as answers
use Rattle.sender.specs.LiveState.{LiveSeen}
use Rattle.c_machine.specs.Status as statuses
use Rattle.c_handle.specs.CallsOut.{IsCallNext}
use Rattle.c_handle.specs.DiskCalls.{HandsFrom}
use Rattle.c_handle.specs.Kept.{IsNew, KeptSeen, Moving, State, is_lost}
use Rattle.c_handle.specs.Migrated.{StopsKept}
use Rattle.c_handle.specs.Mirror.{is_closed}
use Rattle.c_handle.specs.Outside.{AnswersKept, HandsKept, HasNotAnswered, counted_answer, devices_of}
use Rattle.c_handle.specs.Resetting.{state_refusal}
use Rattle.c_handle.specs.declared.outside.Call.{Call}

-- Calls of a new machine, or of one that will arrive, have the numbers from the one on that was asked for.
abbrev pub FirstCallsAreFrom : Type 0
FirstCallsAreFrom = (mapped : Bool) (flags places block from : ℕ) (k : KeptSeen) → IsNew mapped flags places block from k → AreFrom from k.calls

-- It stays so whatever is handed out and answered. No other call of C changes which calls are out, or their numbers.
abbrev pub HandsStayFrom : Type 0
HandsStayFrom = (from : ℕ) (k : State) (calls after : AllCalls) (status : ℕ) (call old_call : Call) (buf new_buf : List ℕ) → AreFrom from calls → HandsKept k calls status call old_call buf new_buf after → AreFrom from after

abbrev pub AnswersStayFrom : Type 0
AnswersStayFrom = (from : ℕ) (k : KeptSeen) (number : ℕ) (fits : DiskCall → Bool) (answer : DiskCall → DiskAnswer) (status : ℕ) (next : State) (log : Option (List Bool)) (calls : AllCalls) → AreFrom from k.calls
    → AnswersKept k number fits answer status next log calls → AreFrom from calls

-- So an answer with a smaller number, as one of another machine, is refused, and changes nothing.
abbrev pub ForeignIsNotOut : Type 0
ForeignIsNotOut = (from : ℕ) (k : KeptSeen) (number : ℕ) (fits : DiskCall → Bool) (answer : DiskCall → DiskAnswer) (status : ℕ) (next : State) (log : Option (List Bool)) (calls : AllCalls) → AreFrom from k.calls → number < from → state_refusal k.state ≡ None
    → AnswersKept k number fits answer status next log calls → HasNotAnswered k status next log calls statuses.not_out

-- And one with a number that was not handed out yet, as one of a machine whose numbers begin later.
abbrev pub UnusedIsNotOut : Type 0
UnusedIsNotOut = (k : KeptSeen) (number : ℕ) (fits : DiskCall → Bool) (answer : DiskCall → DiskAnswer) (status : ℕ) (next : State) (log : Option (List Bool)) (calls : AllCalls) → AreNumbered k.calls → k.calls.number ≤ number → state_refusal k.state ≡ None
    → AnswersKept k number fits answer status next log calls → HasNotAnswered k status next log calls statuses.not_out

-- Where `vmig_next` tells of a call, the next hand-out gives one, whatever room there is for it.
abbrev pub NextCallIsHandedOut : Type 0
NextCallIsHandedOut = (m : MachineState) (calls after : AllCalls) (dev status : ℕ) (call old_call : Call) (buf new_buf : List ℕ) → IsCallNext calls (asked_of m) dev → 512 ≤ length buf → HandsFrom m calls status call old_call buf new_buf after
    → status ≡ statuses.call

-- Of a disk that is lost each answer of a call that makes something durable counts as a failure, also where the call was out when the disk was lost.
abbrev pub LostAnswersFail : Type 0
LostAnswersFail = (k : KeptSeen) (place : Place) (d : DeviceState) (answer : DiskAnswer) → slice_get (devices_of k.state) place.dev ≡ Some d → is_lost k place.dev ≡ true → makes_durable (call_with d.registers.common.features place.call) ≡ true
    → counted_answer k place answer ≡ answers.Failed

-- No call of a stopped machine is out. A stop that is answered with OK found none,
abbrev pub StopFindsNoneOut : Type 0
StopFindsNoneOut = (out : Bool) (k next : State) (status pages old_pages sectors old_sectors : ℕ) → StopsKept out k status pages old_pages sectors old_sectors next → status ≡ statuses.done → out ≡ false

-- and a machine that was stopped hands none out.
abbrev pub StoppedHandsNone : Type 0
StoppedHandsNone = (l : LiveSeen) (calls after : AllCalls) (status : ℕ) (call old_call : Call) (buf new_buf : List ℕ) → is_closed l.phase ≡ true → HandsKept (Moving l) calls status call old_call buf new_buf after → after ≡ calls
