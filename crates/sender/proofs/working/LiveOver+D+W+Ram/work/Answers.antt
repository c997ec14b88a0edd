use Rattle.std.proofs.Common.{◌≤◌, arith}
use Rattle.machine.proofs.DeviceTurns.{begins, goes}
use Rattle.sender.specs.Turns.{MakesLiveStep, live_devices}
use Rattle.sender.proofs.working.LiveOver+D+W+Ram.work.Goals as goal

pub loop-made-init : goal.loop-made-init
loop-made-init g c = record {
  on = begins live_devices (MakesLiveStep g.D.Disk.called) c.args.self.now c.args.turn.now;
  running = c.in_ok-running.ensures.open;
}

pub loop-made-preserved : goal.loop-made-preserved
loop-made-preserved g c =
    let i = c.loop-made in
    let left : 1 ≤ i.turn.left = omega (arith, i.invariant.on.left, c.loop-made-test.true) in
    record {
      on = goes live_devices (MakesLiveStep g.D.Disk.called) c.args.self.now c.args.turn.now i.made i.self i.turn c.work_once.new.sent.items c.work_once.new.self c.work_once.new.turn i.invariant.on left (rw (c.in-None.is) at c.work_once.ensures.once);
      running = c.work_once.ensures.running;
    }
