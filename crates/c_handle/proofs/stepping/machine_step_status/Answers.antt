use Rattle.std.proofs.Common.{◌≡◌, ◌≤◌, ◌∙◌, sym, nat_lt, false, length, arith}
use Rattle.guestmem.specs.Maybe.{after_if}
use Rattle.machine.specs.Applied.{IsAppliedLogged}
use Rattle.machine.specs.PageLog.{noted}
use Rattle.machine.specs.Stepped.{reply_in}
use Rattle.machine.specs.declared.event.Event.TheVariants.{Step}
use Rattle.c_handle.proofs.Sending.{not_below, sends_within, few_sent, stepped}
use Rattle.c_handle.specs.Stepped.{most_sent_by}
use Rattle.c_handle.proofs.stepping.machine_step_status.Goals as goal

pub tell_step-requires-clause-room : goal.tell_step-requires-clause-room
tell_step-requires-clause-room g c =
    let reply = reply_in c.stepped-stepped.result c.as_slice.result.now in
    let logged : IsAppliedLogged (after_if noted) c.args.machine.now c.args.output.now.written (Step c.args.dev c.args.pick) reply _ _ = rw (← c.as_slice.ensures.value) at c.stepped-stepped.ensures.logged in
    let sent = sends_within _ _ c.args.dev c.args.pick reply c.shapes-shapes.ensures.sound logged.is_applied in
    let fits : most_sent_by c.args.machine.now c.args.dev c.args.pick ≤ length c.args.buf.now = not_below _ _ (sym c.is_too_small.ensures ∙ c.if-is_too_small.false) in
    omega (arith, sent, fits)

pub tell_step-requires-clause-few : goal.tell_step-requires-clause-few
tell_step-requires-clause-few g c =
    let reply = reply_in c.stepped-stepped.result c.as_slice.result.now in
    let logged : IsAppliedLogged (after_if noted) c.args.machine.now c.args.output.now.written (Step c.args.dev c.args.pick) reply _ _ = rw (← c.as_slice.ensures.value) at c.stepped-stepped.ensures.logged in
    few_sent _ _ c.args.dev c.args.pick reply c.shapes-shapes.ensures.sound logged.is_applied

pub returns-clause-steps : goal.returns-clause-steps
returns-clause-steps g c =
    let message = c.as_slice.result.now in
    let fits : nat_lt (length c.args.buf.now) (most_sent_by c.args.machine.now c.args.dev c.args.pick) ≡ false = sym c.is_too_small.ensures ∙ c.if-is_too_small.false in
    stepped _ _ _ _ c.args.dev c.args.pick _ _ _ _ _ (reply_in c.stepped-stepped.result message) fits (rw (← c.as_slice.ensures.value) at c.stepped-stepped.ensures.logged) c.tell_step.ensures.status c.tell_step.ensures.number c.tell_step.ensures.sent
