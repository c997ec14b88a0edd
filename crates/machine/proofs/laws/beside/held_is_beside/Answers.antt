use Rattle.machine.proofs.Beside.{held_beside, quiet_open}
use Rattle.machine.proofs.laws.beside.held_is_beside.Goals as goal

pub returns-clause-closed : goal.returns-clause-closed
returns-clause-closed c = held_beside

pub returns-clause-ended : goal.returns-clause-ended
returns-clause-ended c = quiet_open
