use Rattle.c_handle.proofs.Sent.{calls_stay_sent as proved}
use Rattle.c_handle.proofs.laws.calls_stay_sent.Goals as goal

pub returns : goal.returns
returns c = proved
