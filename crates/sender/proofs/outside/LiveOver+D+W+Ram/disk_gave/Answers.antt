use Rattle.sender.proofs.Living.{guest_served, live_guest, may_all}
use Rattle.sender.proofs.outside.LiveOver+D+W+Ram.disk_gave.Goals as goal

pub disk_gave_logged-answer-requires : goal.disk_gave_logged-answer-requires
disk_gave_logged-answer-requires g c = record { may = may_all c.self.inside.machine c.self.inside.logs.first c.self.inside.phase c.self.inside.due c.self.inside.at c.self.invariant }

pub invariant_of-self : goal.invariant_of-self
invariant_of-self g c =
    let i = c.self.inside in
    let was = c.disk_gave_logged-answer in
    live_guest i.machine was.new.self i.logs.first was.new.log i.phase i.due i.at _ _ c.self.invariant was.ensures.applied

pub returns-clause-served : goal.returns-clause-served
returns-clause-served g c =
    let i = c.self.inside in
    let still = rw (← c.self.view_is) at c.in_ok-running.ensures.open in
    let was = c.disk_gave_logged-answer in
    rw (← c.self.view_is, c.from_moved.ensures.gave c.args.bytes.now)
    (guest_served i.machine was.new.self i.logs.first was.new.log i.phase i.due i.at _ _ c.self.invariant was.ensures.applied (g.W.Sink.sum i.writer) (g.W.Sink.state i.writer) still)
