use Rattle.sender.proofs.Settled.{one_history as proved}
use Rattle.sender.proofs.laws.replies_settle.Goals as goal

pub returns : goal.returns
returns c = proved
