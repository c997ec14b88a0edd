use Rattle.std.proofs.Common.{◌≤◌, arith}
use Rattle.machine.specs.MachineTurn.{MakesStep, devices_in}
use Rattle.machine.proofs.DeviceTurns.{begins, goes}
use Rattle.machine.proofs.machine.working.MachineOver+D+Ram.work.Goals as goal

pub loop-made-init : goal.loop-made-init
loop-made-init g c = begins devices_in (MakesStep g.D.Disk.called) c.args.self.now c.args.turn.now

pub loop-made-preserved : goal.loop-made-preserved
loop-made-preserved g c =
    let i = c.loop-made in
    let left : 1 ≤ i.turn.left = omega (arith, i.invariant.left, c.loop-made-test.true) in
    goes devices_in (MakesStep g.D.Disk.called) c.args.self.now c.args.turn.now i.made i.self i.turn c.work_once.new.sent.items c.work_once.new.self c.work_once.new.turn i.invariant left (rw (c.in-None.is) at c.work_once.ensures)
