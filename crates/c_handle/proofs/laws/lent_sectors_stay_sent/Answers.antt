use Rattle.c_handle.proofs.LentCopies.{lent_sectors_stay_sent, unsent_sectors_stay_sent}
use Rattle.c_handle.proofs.laws.lent_sectors_stay_sent.Goals as goal

pub returns-clause-sent : goal.returns-clause-sent
returns-clause-sent c = lent_sectors_stay_sent

pub returns-clause-unsent : goal.returns-clause-unsent
returns-clause-unsent c = unsent_sectors_stay_sent
