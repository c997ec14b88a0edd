use Rattle.machine.proofs.GivenBack.{unnamed_is_written as proved}
use Rattle.machine.proofs.laws.unnamed_is_written.Goals as goal

pub returns : goal.returns
returns c = proved
