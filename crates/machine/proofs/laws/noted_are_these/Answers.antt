use Rattle.machine.proofs.Handing.{these_noted}
use Rattle.machine.proofs.laws.noted_are_these.Goals as goal

pub returns : goal.returns
returns c = these_noted
