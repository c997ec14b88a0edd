use Rattle.machine.proofs.Effects.{exists}
use Rattle.machine.proofs.laws.touched_exists.Goals as goal

pub returns : goal.returns
returns c = exists
