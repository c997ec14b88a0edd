use Rattle.machine.proofs.Within.{step_within}
use Rattle.machine.proofs.laws.step_stays_within.Goals as goal

pub returns : goal.returns
returns c = step_within
