use Rattle.machine.proofs.Agreeing.{steps_same}
use Rattle.machine.proofs.laws.steps_agree.Goals as goal

pub returns : goal.returns
returns c = steps_same
