use Rattle.machine.proofs.Within.{step_shape}
use Rattle.machine.proofs.laws.step_keeps_shape.Goals as goal

pub returns : goal.returns
returns c = step_shape
