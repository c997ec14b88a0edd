use Rattle.machine.proofs.Calling.{only_steps}
use Rattle.machine.proofs.laws.only_steps_call.Goals as goal

pub returns : goal.returns
returns c = only_steps
