use Rattle.c_handle.proofs.Sent.{first_is_sent as proved}
use Rattle.c_handle.proofs.laws.first_is_sent.Goals as goal

pub returns : goal.returns
returns c = proved
