use Rattle.machine.proofs.Beside.{beside_step, open_step, written_there}
use Rattle.machine.proofs.laws.beside.beside_is_step.Goals as goal

pub returns-clause-written : goal.returns-clause-written
returns-clause-written c = written_there

pub returns-clause-step : goal.returns-clause-step
returns-clause-step c = beside_step

pub returns-clause-ended : goal.returns-clause-ended
returns-clause-ended c = open_step
