use Rattle.c_handle.proofs.Failing.{failed_stays_plain as proved}
use Rattle.c_handle.proofs.laws.failed_stays_plain.Goals as goal

pub returns : goal.returns
returns c = proved
