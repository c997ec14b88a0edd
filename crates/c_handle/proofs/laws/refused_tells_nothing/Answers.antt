use Rattle.c_handle.proofs.Quiet.{refused_tells_nothing as proved}
use Rattle.c_handle.proofs.laws.refused_tells_nothing.Goals as goal

pub returns : goal.returns
returns c = proved c.refused_changes_nothing.ensures
