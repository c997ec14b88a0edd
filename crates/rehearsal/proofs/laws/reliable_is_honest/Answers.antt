use Rattle.rehearsal.proofs.Reliable.{reliable_is_honest}
use Rattle.rehearsal.proofs.laws.reliable_is_honest.Goals as goal

pub returns : goal.returns
returns c = reliable_is_honest
