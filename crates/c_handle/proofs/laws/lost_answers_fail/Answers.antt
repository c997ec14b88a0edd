use Rattle.c_handle.proofs.CallLaws.{lost_answers_fail as proved}
use Rattle.c_handle.proofs.laws.lost_answers_fail.Goals as goal

pub returns : goal.returns
returns c = proved
