use Rattle.machine.proofs.Asked.{held_known, put_elsewhere}
use Rattle.machine.proofs.laws.beside.held_stays_known.Goals as goal

pub returns-clause-known : goal.returns-clause-known
returns-clause-known c = held_known

pub returns-clause-elsewhere : goal.returns-clause-elsewhere
returns-clause-elsewhere c = put_elsewhere
