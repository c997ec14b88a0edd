use Rattle.std.proofs.Common.{inl, inr, ◌≡◌, None, Some, Option, refl, rules}
use Rattle.std.proofs.lemmas.Result.{err_from_is_err_and}
use Rattle.traces.specs.Trace.{contents_of}
use Rattle.vmig.specs.Playing.{ending_of}
use Rattle.vmig.specs.Words.{name_in}
use Rattle.vmig.proofs.PlayedLines.{lines_are}
use Rattle.vmig.proofs.Written.{keeps_same}
use Rattle.vmig.specs.declared.fault.Fault.{Fault}
use Rattle.vmig.specs.declared.fault.Fault.TheVariants.{StreamOut}
use Rattle.vmig.proofs.playing.play_text.Goals as goal

pub returns-in_err-trace-clause-failed : goal.returns-in_err-trace-clause-failed
returns-in_err-trace-clause-failed g c =
    let told = err_from_is_err_and c.from_residual.result c.from_residual.ensures.1 in
    rw told.1 (inl (inl (_, c.in_err-trace.ensures.bad, told.2), keeps_same _))

pub returns-in_err-write_all-clause-failed : goal.returns-in_err-write_all-clause-failed
returns-in_err-write_all-clause-failed g c =
    let told = err_from_is_err_and c.from_residual-in_err-write_all.result c.from_residual-in_err-write_all.ensures.1 in
    rw told.1 (inr (inl (
      told.2,
      record {
        ending = _;
        output = _;
        asked = lines_are c.args.image (name_in c.args.stream) c.args.text.now (contents_of c.in_ok-trace.trace) _ c.in_ok-replies.replies.items _ c.in_ok-trace.ensures.read c.in_ok-has_stream.ensures.may c.in_ok-replies.ensures.answered c.in_ok-replies.ensures.played refl;
        begun = rw c.as_slice.ensures.value at c.in_err-write_all.ensures.err;
      },
    )))

pub returns-in_err-has_stream-clause-failed : goal.returns-in_err-has_stream-clause-failed
returns-in_err-has_stream-clause-failed g c =
    let told = err_from_is_err_and c.from_residual-in_err-has_stream.result c.from_residual-in_err-has_stream.ensures.1 in
    rw (told.1, told.2) (inl (inr (contents_of c.in_ok-trace.trace, c.in_ok-trace.ensures.read, inl c.in_err-has_stream.ensures.begins), keeps_same _))

pub returns-in_err-replies-clause-failed : goal.returns-in_err-replies-clause-failed
returns-in_err-replies-clause-failed g c =
    let told = err_from_is_err_and c.from_residual-in_err-replies.result c.from_residual-in_err-replies.ensures.1 in
    rw (told.1, told.2) (inl (inr (contents_of c.in_ok-trace.trace, c.in_ok-trace.ensures.read, inr (c.in_ok-has_stream.ensures.may, c.in_err-replies.ensures.failed)), keeps_same _))

pub returns-then-has_failed-clause-failed : goal.returns-then-has_failed-clause-failed
returns-then-has_failed-clause-failed g c =
    let ends : Some StreamOut ≡ ending_of c.in_ok-replies.replies.items = search rules in
    inr (inr (record {
      output = _;
      asked = lines_are c.args.image (name_in c.args.stream) c.args.text.now (contents_of c.in_ok-trace.trace) _ c.in_ok-replies.replies.items _ c.in_ok-trace.ensures.read c.in_ok-has_stream.ensures.may c.in_ok-replies.ensures.answered c.in_ok-replies.ensures.played ends;
      written = rw c.as_slice.ensures.value at c.in_ok-write_all.ensures.ok;
    }))

pub returns-clause-done : goal.returns-clause-done
returns-clause-done g c =
    let ends : (◌≡◌ {A = Option Fault} None (ending_of c.in_ok-replies.replies.items)) = search rules in
    record {
      output = _;
      asked = lines_are c.args.image (name_in c.args.stream) c.args.text.now (contents_of c.in_ok-trace.trace) _ c.in_ok-replies.replies.items _ c.in_ok-trace.ensures.read c.in_ok-has_stream.ensures.may c.in_ok-replies.ensures.answered c.in_ok-replies.ensures.played ends;
      written = rw c.as_slice.ensures.value at c.in_ok-write_all.ensures.ok;
    }
