use Rattle.machine.proofs.Opening.{held_closed, held_step}
use Rattle.machine.proofs.laws.beside.held_word_is_closed.Goals as goal

pub returns-clause-closed : goal.returns-clause-closed
returns-clause-closed c = held_closed

pub returns-clause-step : goal.returns-clause-step
returns-clause-step c = held_step
