use Rattle.machine.proofs.StoredInside.{pieces_inside}
use Rattle.machine.proofs.Writing.{storing_writes}
use Rattle.machine.proofs.laws.beside.storing_is_writes.Goals as goal

pub returns-clause-writes : goal.returns-clause-writes
returns-clause-writes c = storing_writes

pub returns-clause-inside : goal.returns-clause-inside
returns-clause-inside c = pieces_inside
