use Rattle.c_handle.proofs.LentCopies.{failed_handings_stay_sent, handings_stay_sent}
use Rattle.c_handle.proofs.laws.handings_stay_sent.Goals as goal

pub returns-clause-sent : goal.returns-clause-sent
returns-clause-sent c = handings_stay_sent

pub returns-clause-failed : goal.returns-clause-failed
returns-clause-failed c = failed_handings_stay_sent
