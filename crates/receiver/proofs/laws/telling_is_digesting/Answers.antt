use Rattle.receiver.proofs.Alike.{alike}
use Rattle.receiver.proofs.laws.telling_is_digesting.Goals as goal

pub returns : goal.returns
returns c = alike
