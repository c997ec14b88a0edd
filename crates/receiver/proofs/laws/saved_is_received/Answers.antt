use Rattle.receiver.proofs.Saved.{saved_received}
use Rattle.receiver.proofs.laws.saved_is_received.Goals as goal

pub returns : goal.returns
returns c = saved_received
