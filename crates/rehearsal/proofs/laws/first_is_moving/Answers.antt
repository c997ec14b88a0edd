use Rattle.rehearsal.proofs.Moving.{first_is_moving}
use Rattle.rehearsal.proofs.laws.first_is_moving.Goals as goal

pub returns : goal.returns
returns c = first_is_moving
