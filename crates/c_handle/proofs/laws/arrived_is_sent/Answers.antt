use Rattle.c_handle.proofs.Sent.{arrived_is_sent as proved}
use Rattle.c_handle.proofs.laws.arrived_is_sent.Goals as goal

pub returns : goal.returns
returns c = proved
