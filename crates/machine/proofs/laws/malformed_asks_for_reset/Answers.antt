use Rattle.machine.proofs.Containing.{asks}
use Rattle.machine.proofs.laws.malformed_asks_for_reset.Goals as goal

pub returns : goal.returns
returns c = asks
