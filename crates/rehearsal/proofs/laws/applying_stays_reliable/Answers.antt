use Rattle.rehearsal.proofs.Reliable.{applying_stays_reliable}
use Rattle.rehearsal.proofs.laws.applying_stays_reliable.Goals as goal

pub returns : goal.returns
returns c = applying_stays_reliable
