use Rattle.sender.proofs.HereOrLent.{guest_leaves, says_whether, tried_over, try_kept}
use Rattle.sender.proofs.live.LiveOver.fail_flush.Goals as goal

pub invariant_of-self : goal.invariant_of-self
invariant_of-self g c =
    let i = c.self.inside in
    let was = c.fail_flush in
    try_kept g.M.GuestRam.known i.machine was.new.self i.phase i.due i.logs.first.set i.logs.first.firsts.items i.at c.args.dev c.args.pick was.result c.self.invariant was.ensures.failed was.ensures.sectors

pub returns-clause-tried : goal.returns-clause-tried
returns-clause-tried g c =
    let i = c.self.inside in
    let was = c.fail_flush in
    let still = rw (← c.self.view_is) at c.in_ok-running.ensures.open in
    rw (← c.self.view_is) (tried_over g.M.GuestRam.known i.machine was.new.self i.phase i.due i.logs.first.set (g.W.Sink.sum i.writer) (g.W.Sink.state i.writer) c.args.dev c.args.pick was.result was.ensures.was was.ensures.failed still)

pub returns-clause-rest : goal.returns-clause-rest
returns-clause-rest g c =
    let i = c.self.inside in
    let was = c.fail_flush in
    let still = rw (← c.self.view_is) at c.in_ok-running.ensures.open in
    rw (← c.self.view_is) (guest_leaves g.M.GuestRam.known i.machine was.new.self i.phase i.due i.logs.first.set (g.W.Sink.sum i.writer) (g.W.Sink.state i.writer) was.result was.ensures.sectors was.ensures.calls still)

pub returns-clause-says : goal.returns-clause-says
returns-clause-says g c =
    let i = c.self.inside in
    let was = c.fail_flush in
    rw (← c.self.view_is) (says_whether g.M.GuestRam.known i.machine was.new.self i.phase i.due i.logs.first.set (g.W.Sink.sum i.writer) (g.W.Sink.state i.writer) c.args.dev c.args.pick was.result was.ensures.was was.ensures.same)
