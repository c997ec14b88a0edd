use Rattle.machine.proofs.GivenBack.{mark_is_written as proved}
use Rattle.machine.proofs.laws.mark_is_written.Goals as goal

pub returns : goal.returns
returns c = proved
