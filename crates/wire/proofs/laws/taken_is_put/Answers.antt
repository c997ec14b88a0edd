use Rattle.wire.proofs.ToldSinks.{taken_is_put}
use Rattle.wire.proofs.laws.taken_is_put.Goals as goal

pub returns : goal.returns
returns c = taken_is_put
