use Rattle.machine.proofs.Effects.{same_shape}
use Rattle.machine.proofs.laws.shape_stays.Goals as goal

pub returns : goal.returns
returns c = same_shape
