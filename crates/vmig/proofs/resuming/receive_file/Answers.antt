use Rattle.std.proofs.Common.{◌++◌, rules, subst, sym}
use Rattle.std.proofs.lemmas.Result.{err_from_is_err_and}
use Rattle.receiver.specs.Disks.{AreHonestDisks, disk_marks_of, sizes_of}
use Rattle.vmig.proofs.Arriving.{of_arrival}
use Rattle.vmig.specs.Allowing.{program_terms}
use Rattle.vmig.specs.Resuming.{TellsOfArrival}
use Rattle.vmig.specs.declared.fault.Fault.{Fault}
use Rattle.vmig.proofs.resuming.receive_file.Goals as goal

pub returns-in_err-machine-clause-failed : goal.returns-in_err-machine-clause-failed
returns-in_err-machine-clause-failed g c =
    let outside = c.args.arrival.outside in
    let stream = c.args.arrival.stream.now in
    let sizes = sizes_of g.D.Disk.state c.args.disks.items in
    let marks = disk_marks_of g.D.Disk.state c.args.disks.items in
    let told = err_from_is_err_and c.from_residual-in_err-machine.result c.from_residual-in_err-machine.ensures.1 in
    let refused = rw (c.with_terms-receiver.ensures.sizes, c.with_terms-receiver.ensures.marks) at (c.in_err-machine.ensures.failed (program_terms outside) (search rules)) in
    rw told.1 (subst (λ (f : Fault). TellsOfArrival outside stream sizes marks f) (sym told.2) (of_arrival outside stream _ sizes marks _ refused))

pub returns-clause-over : goal.returns-clause-over
returns-clause-over g c =
    let arrived = c.in_ok-machine.ensures.arrived (program_terms c.args.arrival.outside) (search rules) in
    record { bytes = _ ++ arrived.more; arrived = arrived.arrived; based = arrived.based; within = arrived.within }

pub returns-clause-arrived : goal.returns-clause-arrived
returns-clause-arrived g c = λ honest.
    let all : AreHonestDisks c.with_terms-receiver.result.marks = rw c.with_terms-receiver.ensures.marks honest in
    let arrived = c.in_ok-machine.ensures.received (program_terms c.args.arrival.outside) (search rules) all in
    record { bytes = _ ++ arrived.more; stream = arrived.received.stream; based = arrived.based; within = arrived.within }
