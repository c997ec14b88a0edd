use Rattle.rehearsal.proofs.Moving.{takings_stay_moving}
use Rattle.rehearsal.proofs.laws.takings_stay_moving.Goals as goal

pub returns : goal.returns
returns c = takings_stay_moving
