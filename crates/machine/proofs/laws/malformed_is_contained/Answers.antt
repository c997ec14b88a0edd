use Rattle.machine.proofs.Containing.{contained}
use Rattle.machine.proofs.laws.malformed_is_contained.Goals as goal

pub returns : goal.returns
returns c = contained
