use Rattle.machine.proofs.Quiet.{unlogged}
use Rattle.machine.proofs.machine.outside.MachineOver+D+Ram.hand_in.Goals as goal

pub returns-in-Gave-clause-applied : goal.returns-in-Gave-clause-applied
returns-in-Gave-clause-applied g c = rw (c.in-Gave.is, c.from_moved.ensures.gave c.in-Gave.bytes) (rw c.as_slice.ensures at c.disk_gave_logged.ensures.applied)

pub returns-in-Did-clause-applied : goal.returns-in-Did-clause-applied
returns-in-Did-clause-applied g c =
    rw (c.in-Did.is, c.from_moved-in-Did.ensures.did c.in-Did.count) (unlogged g.L.TouchLog.after c.args.self.now c.disk_did.new.self c.args.log.now _ _ tt c.disk_did.ensures.applied)

pub returns-in-Failed-clause-applied : goal.returns-in-Failed-clause-applied
returns-in-Failed-clause-applied g c =
    rw (c.in-Failed.is, c.from_failed.ensures) (unlogged g.L.TouchLog.after c.args.self.now c.disk_failed.new.self c.args.log.now _ _ tt c.disk_failed.ensures.applied)
