use Rattle.machine.proofs.Fresh.{stays_within}
use Rattle.machine.proofs.laws.limits_stay.Goals as goal

pub returns : goal.returns
returns c = stays_within
