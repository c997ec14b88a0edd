use Rattle.guestmem.proofs.GivenBack.{marked_is_written as proved}
use Rattle.guestmem.proofs.laws.marked_is_written.Goals as goal

pub returns : goal.returns
returns c = proved
