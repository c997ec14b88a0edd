use Rattle.c_handle.proofs.Failing.{failed_mirrors as proved}
use Rattle.c_handle.proofs.laws.failed_mirrors.Goals as goal

pub returns : goal.returns
returns c = proved
