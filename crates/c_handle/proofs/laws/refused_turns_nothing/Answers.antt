use Rattle.c_handle.proofs.TurnSteps.{refused_turns_nothing as proved}
use Rattle.c_handle.proofs.laws.refused_turns_nothing.Goals as goal

pub returns : goal.returns
returns c = proved c.refused_changes_nothing.ensures
