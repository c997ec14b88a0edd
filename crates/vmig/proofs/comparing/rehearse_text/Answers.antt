use Rattle.std.proofs.Common.{inl, rules}
use Rattle.std.proofs.lemmas.Result.{err_from_is_err_and}
use Rattle.traces.specs.Trace.{contents_of}
use Rattle.vmig.specs.Comparing.{WerePlayed}
use Rattle.vmig.proofs.ComparingVerdict.{begun}
use Rattle.vmig.proofs.Written.{keeps_same}
use Rattle.vmig.proofs.comparing.rehearse_text.Goals as goal

pub returns-in_err-trace-clause-failed : goal.returns-in_err-trace-clause-failed
returns-in_err-trace-clause-failed g c =
    let told = err_from_is_err_and c.from_residual.result c.from_residual.ensures.1 in
    rw told.1 (inl (inl (_, c.in_err-trace.ensures.bad, told.2), keeps_same _))

pub returns-in_err-write_verdict-clause-failed : goal.returns-in_err-write_verdict-clause-failed
returns-in_err-write_verdict-clause-failed g c =
    let told = err_from_is_err_and c.from_residual-in_err-write_verdict.result c.from_residual-in_err-write_verdict.ensures.1 in
    let contents = contents_of c.in_ok-trace.trace in
    let replies = c.judge-replies.result.0.items in
    let played : WerePlayed contents.events replies = search rules in
    rw told.1 (begun c.args.text.now contents replies c.judge-replies.result.1 _ _ told.0 c.in_ok-trace.ensures.read (c.judge-replies.ensures contents c.in_ok-rehearsed.ensures.done) played told.2
    (rw c.as_slice-3.ensures.value at c.in_err-write_verdict.ensures.err))
