use Rattle.sender.proofs.BehindLent.{taking_stays_behind as proved}
use Rattle.sender.proofs.laws.taking_stays_behind.Goals as goal

pub returns : goal.returns
returns c = proved
