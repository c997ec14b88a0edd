use Rattle.machine.proofs.Agreeing.{effects_same}
use Rattle.machine.proofs.laws.effects_agree.Goals as goal

pub returns : goal.returns
returns c = effects_same
