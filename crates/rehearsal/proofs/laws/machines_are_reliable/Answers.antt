use Rattle.rehearsal.proofs.Reliable.{machines_are_reliable}
use Rattle.rehearsal.proofs.laws.machines_are_reliable.Goals as goal

pub returns : goal.returns
returns c = machines_are_reliable
