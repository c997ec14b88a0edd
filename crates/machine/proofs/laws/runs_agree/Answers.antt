use Rattle.machine.proofs.Agreeing.{runs_same}
use Rattle.machine.proofs.laws.runs_agree.Goals as goal

pub returns : goal.returns
returns c = runs_same
