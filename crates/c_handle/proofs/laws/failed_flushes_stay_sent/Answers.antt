use Rattle.c_handle.proofs.Failing.{failed_flushes_stay_sent as proved}
use Rattle.c_handle.proofs.laws.failed_flushes_stay_sent.Goals as goal

pub returns : goal.returns
returns c = proved
