use Rattle.c_handle.proofs.LentCopies.{lent_rounds_stay_sent as proved}
use Rattle.c_handle.proofs.laws.lent_rounds_stay_sent.Goals as goal

pub returns : goal.returns
returns c = proved
