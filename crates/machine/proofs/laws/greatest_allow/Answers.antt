use Rattle.machine.proofs.Fresh.{greatest_allow}
use Rattle.machine.proofs.laws.greatest_allow.Goals as goal

pub returns : goal.returns
returns c = greatest_allow
