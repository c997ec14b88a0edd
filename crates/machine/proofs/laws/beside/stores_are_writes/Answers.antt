use Rattle.machine.proofs.Stored.{copied_is, device_indexes}
use Rattle.machine.proofs.laws.beside.stores_are_writes.Goals as goal

pub returns-clause-copied : goal.returns-clause-copied
returns-clause-copied c = copied_is

pub returns-clause-pieces : goal.returns-clause-pieces
returns-clause-pieces c = device_indexes
