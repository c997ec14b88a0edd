use Rattle.machine.proofs.Beside.{logged_over}
use Rattle.machine.proofs.machine.lending.beside.MachineOver+D+ParkedRam.step_over.Goals as goal

pub returns : goal.returns
returns g c = logged_over _ c.args.self c.args.window c.in-Ok.window c.args.dev c.args.pick _ c.in-Ok.parked c.give_back-machine.result c.step_into_logged-stepped.new.self _ _ _
    c.give_back-machine.ensures.machine c.give_back-machine.ensures.log c.step_into_logged-stepped.ensures.applied c.in-Ok.ensures.lent
