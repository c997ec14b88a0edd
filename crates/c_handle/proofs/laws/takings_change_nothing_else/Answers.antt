use Rattle.c_handle.proofs.Sent.{aborts_after_takings, takings_change_nothing_else}
use Rattle.c_handle.proofs.laws.takings_change_nothing_else.Goals as goal

pub returns-clause-takes : goal.returns-clause-takes
returns-clause-takes c = takings_change_nothing_else

pub returns-clause-aborts : goal.returns-clause-aborts
returns-clause-aborts c = aborts_after_takings
