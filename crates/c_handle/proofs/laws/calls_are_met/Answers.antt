use Rattle.c_handle.proofs.CallsMet.{calls_stay_out, host_calls_are_met}
use Rattle.c_handle.proofs.laws.calls_are_met.Goals as goal

pub returns-clause-met : goal.returns-clause-met
returns-clause-met c = host_calls_are_met

pub returns-clause-out : goal.returns-clause-out
returns-clause-out c = calls_stay_out
