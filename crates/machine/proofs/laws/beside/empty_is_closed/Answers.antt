use Rattle.machine.proofs.Emptiness.{empty_closed, empty_note, empty_step}
use Rattle.machine.proofs.laws.beside.empty_is_closed.Goals as goal

pub returns-clause-closed : goal.returns-clause-closed
returns-clause-closed c = empty_closed

pub returns-clause-step : goal.returns-clause-step
returns-clause-step c = empty_step

pub returns-clause-note : goal.returns-clause-note
returns-clause-note c = empty_note
