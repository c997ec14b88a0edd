use Rattle.machine.proofs.ParkedCalls.{lent_is_after_return as proved}
use Rattle.machine.proofs.laws.lent_call_is_made_after_the_return.Goals as goal

pub returns : goal.returns
returns c = proved
