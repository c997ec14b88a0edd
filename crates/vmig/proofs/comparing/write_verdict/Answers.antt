use Rattle.traces.proofs.Known.{appends_on, begins_first, begins_later, on_err}
use Rattle.vmig.proofs.Written.{flush_failed}
use Rattle.vmig.proofs.comparing.write_verdict.Goals as goal

pub returns-in_err-write_each-clause-err : goal.returns-in_err-write_each-clause-err
returns-in_err-write_each-clause-err g c = on_err c.from_residual.result _ (begins_first _ _ _ _ c.in_err-write_each.ensures.err)

pub returns-in_err-put_verdict-clause-err : goal.returns-in_err-put_verdict-clause-err
returns-in_err-put_verdict-clause-err g c = on_err c.from_residual-in_err-put_verdict.result _ (begins_later _ _ _ _ _ c.in_ok-write_each.ensures.ok c.in_err-put_verdict.ensures.err)

pub returns-clause-err : goal.returns-clause-err
returns-clause-err g c = flush_failed c.flush.result _ _ _ _ (appends_on _ _ _ _ _ c.in_ok-write_each.ensures.ok c.in_ok-put_verdict.ensures.ok) c.flush.ensures
