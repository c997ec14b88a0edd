use Rattle.c_handle.proofs.ArrivedLogs.{arrived_has_places as proved}
use Rattle.c_handle.proofs.laws.arrived_has_places.Goals as goal

pub returns : goal.returns
returns c = proved
