use Rattle.machine.proofs.OutsideParts.{asked_taken}
use Rattle.machine.proofs.laws.outside.asked_is_taken.Goals as goal

pub returns : goal.returns
returns c = asked_taken
