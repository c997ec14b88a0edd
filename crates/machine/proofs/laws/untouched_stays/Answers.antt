use Rattle.machine.proofs.Effects.{untouched}
use Rattle.machine.proofs.laws.untouched_stays.Goals as goal

pub returns : goal.returns
returns c = untouched
