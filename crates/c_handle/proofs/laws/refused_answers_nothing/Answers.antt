use Rattle.c_handle.proofs.HandedCalls.{refused_answers_nothing as proved}
use Rattle.c_handle.proofs.laws.refused_answers_nothing.Goals as goal

pub returns : goal.returns
returns c = proved
