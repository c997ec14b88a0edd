use Rattle.sender.proofs.BehindLent.{lent_is_behind as proved}
use Rattle.sender.proofs.laws.lent_is_behind.Goals as goal

pub returns : goal.returns
returns c = proved
