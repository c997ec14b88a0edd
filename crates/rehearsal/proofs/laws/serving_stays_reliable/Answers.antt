use Rattle.rehearsal.proofs.Reliable.{serving_stays_reliable}
use Rattle.rehearsal.proofs.laws.serving_stays_reliable.Goals as goal

pub returns : goal.returns
returns c = serving_stays_reliable
