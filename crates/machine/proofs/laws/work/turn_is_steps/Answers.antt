use Rattle.machine.proofs.DeviceTurns.{turn_is_steps}
use Rattle.machine.proofs.laws.work.turn_is_steps.Goals as goal

pub returns : goal.returns
returns c = turn_is_steps
