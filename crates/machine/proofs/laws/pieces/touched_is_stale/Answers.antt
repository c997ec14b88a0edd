use Rattle.machine.proofs.Touching.{stale}
use Rattle.machine.proofs.laws.pieces.touched_is_stale.Goals as goal

pub returns : goal.returns
returns c = stale
