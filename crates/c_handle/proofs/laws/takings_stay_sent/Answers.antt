use Rattle.c_handle.proofs.Sent.{takings_stay_sent as proved}
use Rattle.c_handle.proofs.laws.takings_stay_sent.Goals as goal

pub returns : goal.returns
returns c = proved
