use Rattle.machine.proofs.Within.{step_sound}
use Rattle.machine.proofs.laws.step_stays_sound.Goals as goal

pub returns : goal.returns
returns c = step_sound
