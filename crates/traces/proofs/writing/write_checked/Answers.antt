use Rattle.traces.proofs.Known.{on_err}
use Rattle.traces.proofs.CheckedLine.{first_begun, second_begun, third_begun}
use Rattle.traces.proofs.writing.write_checked.Goals as goal

pub returns-in_err-put_plain-clause-err : goal.returns-in_err-put_plain-clause-err
returns-in_err-put_plain-clause-err g c = on_err c.from_residual.result _ (first_begun _ _ c.args.pages c.args.devices c.args.rounds c.in_err-put_plain.ensures.err)

pub returns-in_err-put_plain-2-clause-err : goal.returns-in_err-put_plain-2-clause-err
returns-in_err-put_plain-2-clause-err g c =
    on_err c.from_residual-in_err-put_plain-2.result _ (second_begun _ _ _ c.args.pages c.args.devices c.args.rounds c.in_ok-put_plain.ensures.ok c.in_err-put_plain-2.ensures.err)

pub returns-clause-err : goal.returns-clause-err
returns-clause-err g c =
    third_begun c.put_number.result _ _ _ _ c.args.pages c.args.devices c.args.rounds c.in_ok-put_plain.ensures.ok c.in_ok-put_plain-2.ensures.ok c.put_number.ensures.err
