use Rattle.machine.specs.MachineTurn.{MakesStep, devices_in}
use Rattle.machine.proofs.DeviceTurns.{IsOn}
use Rattle.machine.proofs.machine.working.MachineOver+D+Ram.work.Given as goal

abbrev pub invariant-loop-made : goal.invariant-loop-made
invariant-loop-made g l = IsOn devices_in (MakesStep g.D.Disk.called) l.fn.self l.fn.turn l.made l.self l.turn
