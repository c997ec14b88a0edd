use Rattle.std.proofs.Common.{sym, arith}
use Rattle.traces.proofs.Known.{on_err}
use Rattle.vmig.proofs.AllReplies.{begun_at}
use Rattle.vmig.proofs.output.write_each.Goals as goal

pub returns-in_err-write-clause-err : goal.returns-in_err-write-clause-err
returns-in_err-write-clause-err g c =
    on_err c.from_residual.result _
    (begun_at g.L.Line.line _ _ _ c.args.lines.now c.loop-line.line-index c.line-item.result (omega arith) (sym c.line-item.is) c.loop-line.invariant c.in_err-write.ensures.err)
