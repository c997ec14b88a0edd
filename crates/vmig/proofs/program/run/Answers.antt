use Rattle.std.proofs.Common.{ap, map}
use Rattle.std.proofs.lemmas.Result.{err_from_is_err_and}
use Rattle.vmig.proofs.ByWords.{check_done, check_failed, refusal_in, resume_done, resume_failed, run_done, run_failed, words_failed}
use Rattle.vmig.proofs.program.run.Goals as goal

pub returns-in_err-trace-clause-failed : goal.returns-in_err-trace-clause-failed
returns-in_err-trace-clause-failed g c =
    let told = err_from_is_err_and c.from_residual.result c.from_residual.ensures.1 in
    rw told.1 (words_failed (map (λ word. word.now) c.args.words.now) _ _ _ told.2 (λ line. ap refusal_in (c.in_err-trace.ensures.usage line)) (λ line. c.in_err-trace.ensures.known line))

pub returns-in-Run-clause-done : goal.returns-in-Run-clause-done
returns-in-Run-clause-done g c =
    let asks = rw c.in-Run.is at c.in_ok-trace.ensures.asks in
    run_done c.run_trace.result (map (λ word. word.now) c.args.words.now) _ _ _ _ asks.0 asks.2 asks.3 c.run_trace.ensures.done

pub returns-in-Run-clause-failed : goal.returns-in-Run-clause-failed
returns-in-Run-clause-failed g c =
    let asks = rw c.in-Run.is at c.in_ok-trace.ensures.asks in
    run_failed c.run_trace.result (map (λ word. word.now) c.args.words.now) _ _ _ _ _ asks.0 asks.1 asks.2 asks.3 c.run_trace.ensures.failed

pub returns-in-Resume-clause-done : goal.returns-in-Resume-clause-done
returns-in-Resume-clause-done g c =
    let asks = rw c.in-Resume.is at c.in_ok-trace.ensures.asks in
    resume_done c.resume_trace.result (map (λ word. word.now) c.args.words.now) _ _ _ _ asks.0 asks.3 asks.4 c.resume_trace.ensures.done

pub returns-in-Resume-clause-failed : goal.returns-in-Resume-clause-failed
returns-in-Resume-clause-failed g c =
    let asks = rw c.in-Resume.is at c.in_ok-trace.ensures.asks in
    resume_failed c.resume_trace.result (map (λ word. word.now) c.args.words.now) _ _ _ _ _ _ asks.0 asks.1 asks.2 asks.3 asks.4 c.resume_trace.ensures.failed

pub returns-in-Check-clause-done : goal.returns-in-Check-clause-done
returns-in-Check-clause-done g c =
    let asks = rw c.in-Check.is at c.in_ok-trace.ensures.asks in
    check_done c.check_stream.result (map (λ word. word.now) c.args.words.now) _ _ _ asks.0 asks.2 c.check_stream.ensures.done

pub returns-in-Check-clause-failed : goal.returns-in-Check-clause-failed
returns-in-Check-clause-failed g c =
    let asks = rw c.in-Check.is at c.in_ok-trace.ensures.asks in
    check_failed c.check_stream.result (map (λ word. word.now) c.args.words.now) _ _ _ _ asks.0 asks.1 asks.2 c.check_stream.ensures.failed
