use Rattle.machine.proofs.Opening.{apart_open, apart_step}
use Rattle.machine.proofs.laws.beside.apart_is_open.Goals as goal

pub returns-clause-ended : goal.returns-clause-ended
returns-clause-ended c = apart_open

pub returns-clause-step : goal.returns-clause-step
returns-clause-step c = apart_step
