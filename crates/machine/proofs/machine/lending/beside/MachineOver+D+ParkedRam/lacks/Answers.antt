use Rattle.machine.proofs.Beside.{lent_again, place_again}
use Rattle.machine.proofs.machine.lending.beside.MachineOver+D+ParkedRam.lacks.Goals as goal

pub returns-clause-lacking : goal.returns-clause-lacking
returns-clause-lacking g c = rw c.give_back-machine.ensures.machine at c.lacks-lacking.ensures

pub returns-clause-content : goal.returns-clause-content
returns-clause-content g c = rw c.give_back-machine.ensures.machine at c.in-Ok.ensures.lent.lent.bytes

pub returns-clause-place : goal.returns-clause-place
returns-clause-place g c = place_again c.args.self c.args.window c.in-Ok.window c.in-Ok.parked c.give_back-machine.result c.give_back-machine.ensures.machine c.in-Ok.ensures.lent

pub returns-clause-machine : goal.returns-clause-machine
returns-clause-machine g c = lent_again c.args.self c.args.window c.in-Ok.window c.in-Ok.parked c.give_back-machine.result c.give_back-machine.ensures.machine c.in-Ok.ensures.lent
