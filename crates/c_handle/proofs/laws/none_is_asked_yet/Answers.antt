use Rattle.c_handle.proofs.ToldSent.{none_is_asked_yet as proved}
use Rattle.c_handle.proofs.laws.none_is_asked_yet.Goals as goal

pub returns : goal.returns
returns c = proved
