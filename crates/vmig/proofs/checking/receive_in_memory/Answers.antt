use Rattle.std.proofs.Common.{◌≡◌, ◌++◌, take, rules}
use Rattle.std.proofs.lemmas.Result.{IfErr-weaker, IfOk-weaker}
use Rattle.machine.specs.Seen.{state_of}
use Rattle.receiver.specs.Disks.{AreHonestDisks}
use Rattle.wire.specs.Header.{said}
use Rattle.vmig.proofs.Checked.{rest_told}
use Rattle.vmig.proofs.MemoryDisks.{honest_disks}
use Rattle.vmig.specs.Allowing.{program_terms}
use Rattle.vmig.specs.Checking.{IsStreamMachine, TellsOfChecked}
use Rattle.vmig.proofs.checking.receive_in_memory.Goals as goal

pub returns-in-Some-clause-received : goal.returns-in-Some-clause-received
returns-in-Some-clause-received g c =
    let terms = program_terms c.args.outside in
    let honest : AreHonestDisks c.with_terms-receiver.result.marks = rw c.with_terms-receiver.ensures.marks (honest_disks c.in_ok-disks-in-Some.disks.items) in
    IfOk-weaker c.receive_rest.result _ (λ x. IsStreamMachine c.args.outside (state_of x.0) x.1) (λ x h. let r = h terms (search rules) honest in record { bytes = _ ++ r.more; received = r.received; based = r.based; within = r.within }) c.receive_rest.ensures.received

pub returns-in-Some-clause-failed : goal.returns-in-Some-clause-failed
returns-in-Some-clause-failed g c =
    let front = take c.args.front.count c.args.front.piece.items in
    let terms = program_terms c.args.outside in
    let piece : c.deref.result.now ≡ c.args.front.piece.items = search rules in
    let found = rw piece at (rw c.in-Some.is at c.in_ok-header.ensures.found) in
    let within = rw c.program_limits.ensures at (rw c.in-Some.is at c.in_ok-header.ensures.within) in
    let opening = said c.in-Some.header in
    let shapes : c.as_slice.result.now ≡ opening.shapes = search rules in
    let disks = rw shapes at c.in_ok-disks-in-Some.ensures in
    IfErr-weaker c.receive_rest.result _ (TellsOfChecked c.args.outside c.args.name.now) (λ fault told. rest_told c.args.outside c.args.name.now front opening _ c.in_ok-disks-in-Some.disks.items fault found.1 within disks (rw (c.with_terms-receiver.ensures.sizes, c.with_terms-receiver.ensures.marks) at (told terms (search rules)))) c.receive_rest.ensures.failed
