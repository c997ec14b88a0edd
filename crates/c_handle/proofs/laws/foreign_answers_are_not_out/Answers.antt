use Rattle.c_handle.proofs.CallLaws.{foreign_is_not_out, unused_is_not_out}
use Rattle.c_handle.proofs.laws.foreign_answers_are_not_out.Goals as goal

pub returns-clause-below : goal.returns-clause-below
returns-clause-below c = foreign_is_not_out

pub returns-clause-unused : goal.returns-clause-unused
returns-clause-unused c = unused_is_not_out
