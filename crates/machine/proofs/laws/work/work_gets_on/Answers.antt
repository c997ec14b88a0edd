use Rattle.machine.proofs.GettingOn.{gets_on}
use Rattle.machine.proofs.laws.work.work_gets_on.Goals as goal

pub returns : goal.returns
returns c = gets_on
