use Rattle.guestmem.specs.Maybe.{after_if, may_if}
use Rattle.machine.specs.PageLog.{may_note, noted}
use Rattle.sender.proofs.Logging.{live_logged, logged_served, may_both}
use Rattle.sender.proofs.logged.LiveOver+D+W+Ram.apply_logged.Goals as goal

pub apply_logged-reply-requires : goal.apply_logged-reply-requires
apply_logged-reply-requires g c =
    let i = c.self.inside in
    record { may = may_both (may_if may_note) i.machine i.logs.first c.args.log.now c.swap.new.x i.phase i.due i.at c.self.invariant c.swap.ensures.x_after (rw (← c.self.view_is) at c.requires.may) }

pub invariant_of-self : goal.invariant_of-self
invariant_of-self g c =
    let i = c.self.inside in
    let was = c.apply_logged-reply in
    live_logged (after_if noted) i.machine was.new.self i.logs.first c.args.log.now c.swap.new.x was.new.log _ _ c.swap.ensures.x_after was.ensures.applied i.phase i.due i.at c.self.invariant

pub returns-clause-served : goal.returns-clause-served
returns-clause-served g c =
    let i = c.self.inside in
    let still = rw (← c.self.view_is) at c.in_ok-running.ensures.open in
    let was = c.apply_logged-reply in
    rw (← c.self.view_is, c.swap-2.ensures.y_after)
    (logged_served (after_if noted) i.machine was.new.self i.logs.first c.args.log.now c.swap.new.x was.new.log _ _ c.swap.ensures.x_after was.ensures.applied i.phase i.due i.at c.self.invariant (g.W.Sink.sum i.writer) (g.W.Sink.state i.writer) still)
