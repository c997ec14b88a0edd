use Rattle.machine.proofs.Beside.{applied_last, applied_local}
use Rattle.machine.proofs.laws.beside.applied_is_local.Goals as goal

pub returns-clause-same : goal.returns-clause-same
returns-clause-same c = applied_local

pub returns-clause-word : goal.returns-clause-word
returns-clause-word c = applied_last
