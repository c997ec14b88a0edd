use Rattle.rehearsal.proofs.Reliable.{memory_is_reliable}
use Rattle.rehearsal.proofs.laws.memory_is_reliable.Goals as goal

pub returns : goal.returns
returns c = memory_is_reliable
