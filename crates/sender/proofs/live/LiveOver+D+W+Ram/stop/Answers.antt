use Rattle.std.proofs.Common.{sym, ◌∙◌}
use Rattle.std.proofs.lemmas.Result.{err_from_is_err_and}
use Rattle.sender.proofs.ItemReads.{stop_called, stop_failed_called, stop_short_called}
use Rattle.sender.proofs.Stopping.{stop_failed, stop_short, stops}
use Rattle.sender.proofs.live.LiveOver+D+W+Ram.stop.Goals as goal

pub returns-clause-served : goal.returns-clause-served
returns-clause-served g c =
    let free = sym c.refusal.ensures ∙ c.in_default.is in
    stops c.args.self.now c.send_all.new.self c.close.new.self _ _ free c.in_ok-sent.ensures.sent c.in_ok-close.ensures.closed

pub returns-clause-calls : goal.returns-clause-calls
returns-clause-calls g c =
    let free = sym c.refusal.ensures ∙ c.in_default.is in
    stop_called g.D.Disk.called c.args.self.now c.send_all.new.self c.close.new.self c.in_ok-sent.sent.pages c.in_ok-sent.sent.sectors free c.in_ok-sent.ensures.calls c.in_ok-close.ensures.calls

pub returns-in_err-close-clause-served : goal.returns-in_err-close-clause-served
returns-in_err-close-clause-served g c =
    let free = sym c.refusal.ensures ∙ c.in_default.is in
    let told = err_from_is_err_and c.from_residual-in_err-close.result c.from_residual-in_err-close.ensures.1 in
    rw (told.1, told.2) (stop_failed c.args.self.now c.send_all.new.self c.close.new.self c.in_ok-sent.sent.pages c.in_ok-sent.sent.sectors c.in_err-close.field-0.0 free c.in_ok-sent.ensures.sent c.in_err-close.ensures.closed)

pub returns-in_err-close-clause-calls : goal.returns-in_err-close-clause-calls
returns-in_err-close-clause-calls g c =
    let free = sym c.refusal.ensures ∙ c.in_default.is in
    let told = err_from_is_err_and c.from_residual-in_err-close.result c.from_residual-in_err-close.ensures.1 in
    rw (told.1, told.2) (stop_failed_called g.D.Disk.called c.args.self.now c.send_all.new.self c.close.new.self c.in_err-close.field-0.0 free c.in_ok-sent.ensures.calls c.in_err-close.ensures.calls c.in_err-close.ensures.closed)

pub returns-in_err-sent-clause-served : goal.returns-in_err-sent-clause-served
returns-in_err-sent-clause-served g c =
    let free = sym c.refusal.ensures ∙ c.in_default.is in
    let told = err_from_is_err_and c.from_residual.result c.from_residual.ensures.1 in
    rw (told.1, told.2) (stop_short c.args.self.now c.send_all.new.self c.in_err-sent.field-0.0 free c.in_err-sent.ensures.sent)

pub returns-in_err-sent-clause-calls : goal.returns-in_err-sent-clause-calls
returns-in_err-sent-clause-calls g c =
    let free = sym c.refusal.ensures ∙ c.in_default.is in
    let told = err_from_is_err_and c.from_residual.result c.from_residual.ensures.1 in
    rw (told.1, told.2) (stop_short_called g.D.Disk.called c.args.self.now c.send_all.new.self c.in_err-sent.field-0.0 free c.in_err-sent.ensures.calls)
