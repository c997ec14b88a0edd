use Rattle.c_handle.proofs.TurnsSent.{turns_stay_sent as proved}
use Rattle.c_handle.proofs.laws.turns_stay_sent.Goals as goal

pub returns : goal.returns
returns c = proved
