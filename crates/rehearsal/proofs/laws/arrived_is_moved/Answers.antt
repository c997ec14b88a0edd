use Rattle.rehearsal.proofs.Moving.{arrived_is_moved}
use Rattle.rehearsal.proofs.laws.arrived_is_moved.Goals as goal

pub returns : goal.returns
returns c = arrived_is_moved
