use Rattle.machine.proofs.GivenBack.{back_is_written as proved}
use Rattle.machine.proofs.laws.back_is_written.Goals as goal

pub returns : goal.returns
returns c = proved
