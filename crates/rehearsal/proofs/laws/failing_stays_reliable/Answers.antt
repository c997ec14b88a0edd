use Rattle.rehearsal.proofs.Reliable.{failing_stays_reliable}
use Rattle.rehearsal.proofs.laws.failing_stays_reliable.Goals as goal

pub returns : goal.returns
returns c = failing_stays_reliable
