use Rattle.c_handle.proofs.Sent.{stopped_is_whole as proved}
use Rattle.c_handle.proofs.laws.stopped_is_whole.Goals as goal

pub returns : goal.returns
returns c = proved
