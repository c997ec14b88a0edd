use Rattle.c_handle.proofs.LentCopies.{lent_marks_stay_sent as proved}
use Rattle.c_handle.proofs.laws.lent_marks_stay_sent.Goals as goal

pub returns : goal.returns
returns c = proved
