use Rattle.sender.proofs.Living.{guest_served, live_guest, may_all}
use Rattle.sender.proofs.live.LiveOver+D+W+Ram.apply.Goals as goal

pub apply_logged-requires : goal.apply_logged-requires
apply_logged-requires g c = record { may = may_all c.self.inside.machine c.self.inside.logs.first c.self.inside.phase c.self.inside.due c.self.inside.at c.self.invariant }

pub invariant_of-self : goal.invariant_of-self
invariant_of-self g c =
    let i = c.self.inside in
    live_guest i.machine c.apply_logged.new.self i.logs.first c.apply_logged.new.log i.phase i.due i.at _ _ c.self.invariant c.apply_logged.ensures.applied

pub returns-clause-served : goal.returns-clause-served
returns-clause-served g c =
    let i = c.self.inside in
    let still = rw (← c.self.view_is) at c.in_ok-running.ensures.open in
    rw (← c.self.view_is)
    (guest_served i.machine c.apply_logged.new.self i.logs.first c.apply_logged.new.log i.phase i.due i.at _ _ c.self.invariant c.apply_logged.ensures.applied (g.W.Sink.sum i.writer) (g.W.Sink.state i.writer) still)
