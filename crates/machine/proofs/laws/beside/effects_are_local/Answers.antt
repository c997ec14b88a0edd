use Rattle.machine.proofs.Beside.{effects_last, effects_local}
use Rattle.machine.proofs.laws.beside.effects_are_local.Goals as goal

pub returns-clause-same : goal.returns-clause-same
returns-clause-same c = effects_local

pub returns-clause-word : goal.returns-clause-word
returns-clause-word c = effects_last
