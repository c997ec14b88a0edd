use Rattle.std.proofs.Common.{◌≢◌}
use Rattle.machine.proofs.DeviceTurns.{IsOn}
use Rattle.sender.specs.Turns.{MakesLiveStep, live_devices}
use Rattle.sender.specs.declared.phase.Phase.TheVariants as phases
use Rattle.sender.proofs.working.LiveOver+D+W+Ram.work.Given as goal

abbrev pub invariant-loop-made : goal.invariant-loop-made
invariant-loop-made g l = record {
  on : IsOn live_devices (MakesLiveStep g.D.Disk.called) l.fn.self l.fn.turn l.made l.self l.turn;
  running : l.self.phase ≢ phases.Stopped;
}
