use Rattle.c_handle.proofs.ToldSent.{tellings_stay_sent as proved}
use Rattle.c_handle.proofs.laws.tellings_stay_sent.Goals as goal

pub returns : goal.returns
returns c = proved c.taken_is_digested.ensures
