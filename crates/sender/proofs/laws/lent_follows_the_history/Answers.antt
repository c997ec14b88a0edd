use Rattle.sender.proofs.BehindLent.{lent_follows as proved}
use Rattle.sender.proofs.laws.lent_follows_the_history.Goals as goal

pub returns : goal.returns
returns c = proved
