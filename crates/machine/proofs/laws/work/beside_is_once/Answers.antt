use Rattle.machine.proofs.TurnBeside.{beside_is_once}
use Rattle.machine.proofs.laws.work.beside_is_once.Goals as goal

pub returns : goal.returns
returns c = beside_is_once
