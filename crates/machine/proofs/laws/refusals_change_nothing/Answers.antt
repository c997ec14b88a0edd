use Rattle.machine.proofs.Containing.{refusals_quiet}
use Rattle.machine.proofs.laws.refusals_change_nothing.Goals as goal

pub returns : goal.returns
returns c = refusals_quiet
