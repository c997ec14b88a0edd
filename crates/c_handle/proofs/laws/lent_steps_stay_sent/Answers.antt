use Rattle.c_handle.proofs.LentSent.{lent_steps_stay_sent as proved}
use Rattle.c_handle.proofs.laws.lent_steps_stay_sent.Goals as goal

pub returns : goal.returns
returns c = proved
