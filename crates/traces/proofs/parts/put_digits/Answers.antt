use Rattle.std.proofs.Common.{arith}
use Rattle.traces.proofs.Known.{on_err}
use Rattle.traces.proofs.HexText.{no_digits, more_digits, some_digits}
use Rattle.traces.proofs.parts.put_digits.Goals as goal

pub loop-at-init : goal.loop-at-init
loop-at-init g c = record { within = omega arith; done = no_digits _ }

pub returns-in_err-put_few_digits-clause-err : goal.returns-in_err-put_few_digits-clause-err
returns-in_err-put_few_digits-clause-err g c =
    on_err c.from_residual.result _ (some_digits _ _ _ c.loop-at.at c.min-count.result c.args.bytes.now c.loop-at.invariant.done c.in_err-put_few_digits.ensures.err)

pub loop-at-preserved : goal.loop-at-preserved
loop-at-preserved g c =
    record {
      within = omega arith;
      done = more_digits _ _ _ c.loop-at.at c.min-count.result c.args.bytes.now c.loop-at.invariant.done c.in_ok-put_few_digits.ensures.ok;
    }
