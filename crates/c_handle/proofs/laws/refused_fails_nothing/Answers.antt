use Rattle.c_handle.proofs.Failing.{refused_fails_nothing as proved}
use Rattle.c_handle.proofs.laws.refused_fails_nothing.Goals as goal

pub returns : goal.returns
returns c = proved
