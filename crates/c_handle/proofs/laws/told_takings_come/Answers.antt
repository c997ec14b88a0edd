use Rattle.c_handle.proofs.ToldArrival.{none_before}
use Rattle.c_handle.proofs.ToldFeeding.{takings_come}
use Rattle.c_handle.proofs.laws.told_takings_come.Goals as goal

pub returns-clause-come : goal.returns-clause-come
returns-clause-come c = takings_come

pub returns-clause-first : goal.returns-clause-first
returns-clause-first c = none_before
