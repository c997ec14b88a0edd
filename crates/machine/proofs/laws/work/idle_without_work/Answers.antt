use Rattle.machine.proofs.GettingOn.{idle_without}
use Rattle.machine.proofs.laws.work.idle_without_work.Goals as goal

pub returns : goal.returns
returns c = idle_without
