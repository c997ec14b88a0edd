use Rattle.std.proofs.Common.{refl}
use Rattle.sender.proofs.HereOrLent.{guest_called, guest_leaves, guest_served}
use Rattle.sender.proofs.live.LiveOver.read_register.Goals as goal

pub returns-clause-served : goal.returns-clause-served
returns-clause-served g c =
    let i = c.self.inside in
    let was = c.read_register-answer in
    let still = rw (← c.self.view_is) at c.in_ok-running.ensures.open in
    rw (← c.self.view_is, c.from_value.ensures) (guest_served g.M.GuestRam.known i.machine i.machine i.phase i.due i.logs.first.set (g.W.Sink.sum i.writer) (g.W.Sink.state i.writer) _ _ was.ensures tt still)

pub returns-clause-calls : goal.returns-clause-calls
returns-clause-calls g c =
    let i = c.self.inside in
    let was = c.read_register-answer in
    rw (← c.self.view_is) (guest_called g.M.GuestRam.known i.machine i.machine i.phase i.due i.logs.first.set (g.W.Sink.sum i.writer) (g.W.Sink.state i.writer) _ _ was.ensures tt g.D.Disk.called refl)

pub returns-clause-rest : goal.returns-clause-rest
returns-clause-rest g c =
    let i = c.self.inside in
    let was = c.read_register-answer in
    let still = rw (← c.self.view_is) at c.in_ok-running.ensures.open in
    rw (← c.self.view_is) (guest_leaves g.M.GuestRam.known i.machine i.machine i.phase i.due i.logs.first.set (g.W.Sink.sum i.writer) (g.W.Sink.state i.writer) _ refl refl still)
