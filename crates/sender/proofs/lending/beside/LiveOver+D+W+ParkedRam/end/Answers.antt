use Rattle.machine.proofs.Beside.{ended_sectors, ended_versions}
use Rattle.sender.proofs.HereOrLent.{kept_lent}
use Rattle.sender.proofs.lending.beside.LiveOver+D+W+ParkedRam.end.Goals as goal

pub invariant_of-self : goal.invariant_of-self
invariant_of-self g c =
    let i = c.self.inside in
    rw c.end.ensures
    (kept_lent i.machine.memory _ i.machine.devices _ i.phase i.due i.logs.first.set i.logs.first.firsts.items i.at c.self.invariant (ended_versions _ c.args.dev i.machine) (ended_sectors _ c.args.dev i.machine))
