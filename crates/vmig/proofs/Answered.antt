-- The answers of a machine that was made for a trace, with some writer.
use Rattle.std.proofs.Common.{◌≡◌, ℕ, List, length, map, Option, Some, inr}
use Rattle.std.specs.Prelude.{IfErr, IfOk, Result}
use Rattle.std.proofs.lemmas.Result.{IfErr-weaker, IfOk-weaker}
use Rattle.blk.specs.Sectors.{Sector}
use Rattle.machine.specs.First.{first_machine}
use Rattle.machine.specs.Seen.{Seen, state_of}
use Rattle.sender.specs.declared.event.LiveReply.{LiveReply}
use Rattle.traces.specs.Trace.{Contents}
use Rattle.wire.specs.Sinks.{SinkState}
use Rattle.vmig.specs.Output.{IsOne}
use Rattle.vmig.specs.Playing.{AreAnswers, AreAnswersFor, AreAnswersOver, TellsOfSending, TellsOver}
use Rattle.vmig.specs.declared.fault.Fault.{Fault}

pub answered_over : {T E : Type 0} (items : T → List LiveReply) (result : Result T E) (Is : SinkState → Type 0) (c : Contents) (disks : List (List Sector)) (machine : Seen) (out : SinkState) → state_of machine ≡ first_machine c.pages c.shapes disks → Is out
    → IfOk result (λ r. AreAnswers machine out c.events (items r)) → IfOk result (λ r. (x : SinkState) × Is x × AreAnswersOver c disks x (items r))
answered_over {T} items result Is c disks machine out fresh is h =
    IfOk-weaker result (λ r. AreAnswers machine out c.events (items r)) (λ r. (x : SinkState) × Is x × AreAnswersOver c disks x (items r)) (λ r answers. (out, is, record { machine = machine; fresh = fresh; answers = answers })) h

-- Over one disk, and none but that.
pub answered_image : {D T E : Type 0} (sectors_of : D → List (List ℕ)) (items : T → List LiveReply) (result : Result T E) (Is : SinkState → Type 0) (c : Contents) (disks : List D) (image : List ℕ) → IsOne disks
    → IfOk result (λ r. (out : SinkState) × Is out × AreAnswersOver c (map (λ d. map Some (sectors_of d)) disks) out (items r)) → IfOk result (λ r. AreAnswersFor (Some image) Is c (items r))
answered_image sectors_of items result Is c disks image one h =
    IfOk-weaker result (λ r. (out : SinkState) × Is out × AreAnswersOver c (map (λ d. map Some (sectors_of d)) disks) out (items r)) (λ r. AreAnswersFor (Some image) Is c (items r)) (λ r answers. let (out, is, over) = answers in (sectors_of one.only, out, is, rw one.is at over)) h

pub told_image : {D T : Type 0} (sectors_of : D → List (List ℕ)) (result : Result T Fault) (stream : Option (List ℕ)) (c : Contents) (disks : List D) (image : List ℕ) → IsOne disks
    → IfErr result (TellsOfSending stream c (map (λ d. length (sectors_of d)) disks)) → IfErr result (TellsOver (Some image) stream c)
told_image sectors_of result stream c disks image one h =
    IfErr-weaker result (TellsOfSending stream c (map (λ d. length (sectors_of d)) disks)) (TellsOver (Some image) stream c) (λ fault told. inr (length (sectors_of one.only), rw one.is at told)) h
