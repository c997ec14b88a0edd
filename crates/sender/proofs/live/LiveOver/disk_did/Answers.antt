use Rattle.sender.proofs.HereOrLent.{guest_called, guest_kept, guest_leaves, guest_served}
use Rattle.sender.proofs.live.LiveOver.disk_did.Goals as goal

pub invariant_of-self : goal.invariant_of-self
invariant_of-self g c =
    let i = c.self.inside in
    let was = c.disk_did-answer in
    guest_kept g.M.GuestRam.known i.machine was.new.self i.logs.first i.phase i.due i.at _ _ c.self.invariant was.ensures.applied was.ensures.sectors tt

pub returns-clause-served : goal.returns-clause-served
returns-clause-served g c =
    let i = c.self.inside in
    let was = c.disk_did-answer in
    let still = rw (← c.self.view_is) at c.in_ok-running.ensures.open in
    rw (← c.self.view_is, c.from_moved.ensures.did c.args.count) (guest_served g.M.GuestRam.known i.machine was.new.self i.phase i.due i.logs.first.set (g.W.Sink.sum i.writer) (g.W.Sink.state i.writer) _ _ was.ensures.applied tt still)

pub returns-clause-calls : goal.returns-clause-calls
returns-clause-calls g c =
    let i = c.self.inside in
    let was = c.disk_did-answer in
    rw (← c.self.view_is) (guest_called g.M.GuestRam.known i.machine was.new.self i.phase i.due i.logs.first.set (g.W.Sink.sum i.writer) (g.W.Sink.state i.writer) _ _ was.ensures.applied tt g.D.Disk.called was.ensures.calls)

pub returns-clause-rest : goal.returns-clause-rest
returns-clause-rest g c =
    let i = c.self.inside in
    let was = c.disk_did-answer in
    let still = rw (← c.self.view_is) at c.in_ok-running.ensures.open in
    rw (← c.self.view_is) (guest_leaves g.M.GuestRam.known i.machine was.new.self i.phase i.due i.logs.first.set (g.W.Sink.sum i.writer) (g.W.Sink.state i.writer) _ was.ensures.sectors was.ensures.calls still)
