use Rattle.disk_calls.proofs.Asking.{calls_are_met}
use Rattle.disk_calls.proofs.laws.calls_are_met.Goals as goal

pub returns : goal.returns
returns c = calls_are_met
