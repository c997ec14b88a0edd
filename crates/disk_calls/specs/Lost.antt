-- Disks that may have lost what they answered: nothing of theirs counts as durable any more.
use Rattle.std.specs.Prelude.{◌≡◌, ℕ, ◌&&◌, ◌||◌, Bool, true, Some, if◌then◌else◌}
use Rattle.blk.specs.Move.{failed}
use Rattle.blk.specs.declared.request.Request.{Request}
use Rattle.machine.specs.Outcome.{fine}
use Rattle.machine.specs.Outside.{disk_call_of, request_of}
use Rattle.machine.specs.State.{MachineState}
use Rattle.machine.specs.Step.{IsStep}
use Rattle.machine.specs.declared.event.DiskAnswer.{DiskAnswer}
use Rattle.machine.specs.declared.event.DiskAnswer.TheVariants as answers
use Rattle.machine.specs.declared.event.Event.TheVariants.{Disk}
use Rattle.machine.specs.declared.outside_call.OutsideCall.{OutsideCall}
use Rattle.machine.specs.declared.reply.Reply.{Reply}
use Rattle.disk_calls.specs.Overlap.{is_flush}

-- That such a call was done says that something is durable: a flush, or a write or clearing that has to be durable before it is answered.
abbrev pub makes_durable : OutsideCall → Bool
makes_durable asked = is_flush asked.call.what || asked.durable

-- What counts as the answer of a call, of a disk that is lost or not: a lost one failed where it would say that something is durable.
abbrev pub counted : Bool → OutsideCall → DiskAnswer → DiskAnswer
counted lost asked answer = if lost && makes_durable asked then answers.Failed else answer

-- Of a disk that is lost, a request that asks for something durable is failed by each answer: it ends with an error, whatever the storage answered.
abbrev pub LostMakesNothingDurable : Type 0
LostMakesNothingDurable = (m after : MachineState) (dev pick : ℕ) (asked : OutsideCall) (request : Request) (given : DiskAnswer) (r : Reply) → disk_call_of m dev pick ≡ Some asked → makes_durable asked ≡ true → request_of m dev pick ≡ Some request
    → IsStep m (Disk dev pick (counted true asked given)) fine r after → request_of after dev pick ≡ Some (failed request)
