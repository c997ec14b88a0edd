use Rattle.c_handle.proofs.Owing.{refused_steps_nothing as proved}
use Rattle.c_handle.proofs.laws.refused_steps_nothing.Goals as goal

pub returns : goal.returns
returns c = proved c.refused_changes_nothing.ensures
