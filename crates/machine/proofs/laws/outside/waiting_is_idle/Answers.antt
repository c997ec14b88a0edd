use Rattle.machine.proofs.OutsideParts.{waiting_idle}
use Rattle.machine.proofs.laws.outside.waiting_is_idle.Goals as goal

pub returns : goal.returns
returns c = waiting_idle
