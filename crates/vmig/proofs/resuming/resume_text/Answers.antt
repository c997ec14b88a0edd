use Rattle.std.proofs.Common.{inl, inr, None}
use Rattle.std.proofs.lemmas.Result.{err_from_is_err_and}
use Rattle.vmig.proofs.PlayedLines.{lines_resumed}
use Rattle.vmig.proofs.Written.{keeps_same}
use Rattle.vmig.proofs.resuming.resume_text.Goals as goal

pub returns-in_err-events-clause-failed : goal.returns-in_err-events-clause-failed
returns-in_err-events-clause-failed g c =
    let told = err_from_is_err_and c.from_residual.result c.from_residual.ensures.1 in
    rw told.1 (inl (inl (record { refusal = _; refused = c.in_err-events.ensures.bad; is = told.2 }), keeps_same _))

pub returns-in_err-replies-clause-failed : goal.returns-in_err-replies-clause-failed
returns-in_err-replies-clause-failed g c =
    let told = err_from_is_err_and c.from_residual-in_err-replies.result c.from_residual-in_err-replies.ensures.1 in
    rw (told.1, told.2) (inl (inr (c.in_ok-events.events.items, c.in_ok-events.ensures.read, c.in_err-replies.ensures.failed), keeps_same _))

pub returns-in_err-write_all-clause-failed : goal.returns-in_err-write_all-clause-failed
returns-in_err-write_all-clause-failed g c =
    let told = err_from_is_err_and c.from_residual-in_err-write_all.result c.from_residual-in_err-write_all.ensures.1 in
    rw told.1 (inr (inl (
      told.2,
      record {
        ending = None;
        output = _;
        asked = lines_resumed c.args.arrival.image c.args.arrival.outside c.args.text.now c.in_ok-events.events.items c.in_ok-replies.replies.items c.in_ok-events.ensures.read (rw c.as_slice.ensures.value at c.in_ok-replies.ensures.answered) (rw c.as_slice.ensures.value at c.in_ok-replies.ensures.played);
        begun = rw c.as_slice-2.ensures.value at c.in_err-write_all.ensures.err;
      },
    )))

pub returns-clause-done : goal.returns-clause-done
returns-clause-done g c = record {
  output = _;
  asked = lines_resumed c.args.arrival.image c.args.arrival.outside c.args.text.now c.in_ok-events.events.items c.in_ok-replies.replies.items c.in_ok-events.ensures.read (rw c.as_slice.ensures.value at c.in_ok-replies.ensures.answered) (rw c.as_slice.ensures.value at c.in_ok-replies.ensures.played);
  written = rw c.as_slice-2.ensures.value at c.in_ok-write_all.ensures.ok;
}
