use Rattle.c_handle.proofs.Sent.{marks_stay_sent as proved}
use Rattle.c_handle.proofs.laws.marks_stay_sent.Goals as goal

pub returns : goal.returns
returns c = proved
