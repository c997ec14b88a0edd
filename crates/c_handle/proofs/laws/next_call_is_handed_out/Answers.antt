use Rattle.c_handle.proofs.CallLaws.{next_call_is_handed_out as proved}
use Rattle.c_handle.proofs.laws.next_call_is_handed_out.Goals as goal

pub returns : goal.returns
returns c = proved
