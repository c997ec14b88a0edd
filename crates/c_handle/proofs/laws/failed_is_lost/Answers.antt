use Rattle.c_handle.proofs.Failing.{failed_is_lost as proved}
use Rattle.c_handle.proofs.laws.failed_is_lost.Goals as goal

pub returns : goal.returns
returns c = proved
