use Rattle.std.proofs.Common.{◌≡◌, ◌≤◌, ◌∙◌, Ok, ap, sym, subst, length, nat_lt, false, arith}
use Rattle.std.specs.Prelude.{Result}
use Rattle.guestmem.specs.Maybe.{after_if}
use Rattle.machine.specs.PageLog.{noted}
use Rattle.machine.specs.Seen.{Seen}
use Rattle.machine.specs.Stepped.{reply_in}
use Rattle.machine.specs.declared.event.Event.TheVariants.{Step}
use Rattle.machine.specs.declared.reply.Reply.{Reply}
use Rattle.sender.specs.Calls.{guest_reply, stepped_result}
use Rattle.sender.specs.Logged.{ServesLogged}
use Rattle.sender.specs.declared.event.LiveReply.TheVariants as live
use Rattle.sender.specs.declared.mig_error.MigError.{MigError}
use Rattle.c_handle.proofs.PageLogs.{logged_is_served}
use Rattle.c_handle.proofs.ByKept.{few_for, few_in, live_stepped}
use Rattle.c_handle.proofs.Sending.{not_below}
use Rattle.c_handle.specs.Mirror.{is_closed}
use Rattle.c_handle.specs.Stepped.{most_sent_by, sent_in}
use Rattle.c_handle.proofs.stepping.live_step_status.Goals as goal

pub tell_step-requires-clause-room : goal.tell_step-requires-clause-room
tell_step-requires-clause-room g c =
    let message = c.as_slice.result.now in
    let is : stepped_result c.live_stepped.result message ≡ Ok (reply_in c.in-Ok.stepped message) = ap (λ answer. stepped_result answer message) c.in-Ok.is in
    let served = logged_is_served _ _ _ _ _ _ (rw (← c.as_slice.ensures.value) at c.live_stepped.ensures.logged) in
    let sent : length (sent_in (reply_in c.in-Ok.stepped message)) ≤ most_sent_by c.machine.result.now c.args.dev c.args.pick = rw c.machine.ensures (few_for _ _ c.args.dev c.args.pick _ _ c.recall.ensures is served) in
    let fits : most_sent_by c.machine.result.now c.args.dev c.args.pick ≤ length c.args.buf.now = not_below _ _ (sym c.is_too_small.ensures ∙ c.if-is_too_small.false) in
    omega (arith, sent, fits)

pub tell_step-requires-clause-few : goal.tell_step-requires-clause-few
tell_step-requires-clause-few g c =
    let message = c.as_slice.result.now in
    let is : stepped_result c.live_stepped.result message ≡ Ok (reply_in c.in-Ok.stepped message) = ap (λ answer. stepped_result answer message) c.in-Ok.is in
    few_in _ _ _ _ _ c.recall.ensures is (logged_is_served _ _ _ _ _ _ (rw (← c.as_slice.ensures.value) at c.live_stepped.ensures.logged))

pub returns-in-Ok-clause-steps : goal.returns-in-Ok-clause-steps
returns-in-Ok-clause-steps g c =
    let l = c.args.live.now in
    let message = c.as_slice.result.now in
    let reply = reply_in c.in-Ok.stepped message in
    let is : stepped_result c.live_stepped.result message ≡ Ok reply = ap (λ answer. stepped_result answer message) c.in-Ok.is in
    let told : ServesLogged (after_if noted) l c.args.output.now.written (Step c.args.dev c.args.pick) (guest_reply (stepped_result c.live_stepped.result message)) c.live_stepped.new.live c.live_stepped.new.output.written = rw (← c.as_slice.ensures.value) at c.live_stepped.ensures.logged in
    let served : ServesLogged (after_if noted) l c.args.output.now.written (Step c.args.dev c.args.pick) (live.Guest reply) c.live_stepped.new.live c.live_stepped.new.output.written =
    subst (λ (r : Result Reply MigError). ServesLogged (after_if noted) l c.args.output.now.written (Step c.args.dev c.args.pick) (guest_reply r) c.live_stepped.new.live c.live_stepped.new.output.written) is told in
    let goes : is_closed l.phase ≡ false = ap is_closed (sym c.phase.ensures) ∙ sym c.has_stopped.ensures ∙ c.if-has_stopped.false in
    let fits : nat_lt (length c.args.buf.now) (most_sent_by l.machine c.args.dev c.args.pick) ≡ false = ap (λ (m : Seen). nat_lt (length c.args.buf.now) (most_sent_by m c.args.dev c.args.pick)) (sym c.machine.ensures) ∙ sym c.is_too_small.ensures ∙ c.if-is_too_small.false in
    live_stepped l _ _ _ c.args.dev c.args.pick _ _ _ _ _ (live.Guest reply) goes fits c.recall.ensures served c.tell_step.ensures.status c.tell_step.ensures.number c.tell_step.ensures.sent
