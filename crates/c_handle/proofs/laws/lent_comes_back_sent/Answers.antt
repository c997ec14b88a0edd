use Rattle.c_handle.proofs.LentSent.{lent_comes_back_sent as proved}
use Rattle.c_handle.proofs.laws.lent_comes_back_sent.Goals as goal

pub returns : goal.returns
returns c = proved
