use Rattle.std.proofs.Common.{◌≡◌, ◌/◌, length, rules, subst, sym}
use Rattle.std.proofs.lemmas.Result.{err_from_is_err_and}
use Rattle.std.proofs.lemmas.List.{length-map}
use Rattle.guestmem.specs.declared.limits.TheConstants.{PAGE_SIZE}
use Rattle.machine.specs.Seen.{state_of}
use Rattle.vmig.specs.Checking.{IsStreamLine, TellsOfStream}
use Rattle.vmig.specs.Output.{FailsOnFile, Silently}
use Rattle.vmig.specs.declared.fault.Fault.{Fault}
use Rattle.vmig.proofs.Checked.{told_first, told_of_line}
use Rattle.vmig.proofs.checking.check_stream.Goals as goal

pub returns-in_err-machine-clause-failed : goal.returns-in_err-machine-clause-failed
returns-in_err-machine-clause-failed g c =
    let out = g.O.Write.contents c.args.out.now in
    let told = err_from_is_err_and c.from_residual.result c.from_residual.ensures.1 in
    rw told.1 (subst (λ (f : Fault). FailsOnFile c.args.name.now (TellsOfStream c.args.outside) (λ bytes. Silently (IsStreamLine c.args.outside bytes)) out out f) (sym told.2) (told_first c.args.outside c.args.name.now out _ c.in_err-machine.ensures.failed))

pub returns-in_err-write_line-clause-failed : goal.returns-in_err-write_line-clause-failed
returns-in_err-write_line-clause-failed g c =
    let m = state_of c.in_ok-machine.machine in
    let told = err_from_is_err_and c.from_residual-in_err-write_line.result c.from_residual-in_err-write_line.ensures.1 in
    let pages : c.len.result / 4096 ≡ length m.ram / PAGE_SIZE = search rules in
    let devices : length c.shapes-devices.result.now ≡ length m.devices = rw c.shapes-devices.ensures.shapes (length-map m.devices _) in
    rw told.1 (told_of_line c.args.outside c.args.name.now m _ _ c.in_ok-machine.rounds _ _ told.0 c.in_ok-machine.ensures.received pages devices told.2 c.in_err-write_line.ensures.err)
