use Rattle.sender.proofs.Whole.{stopped_is_a_stream as proved}
use Rattle.sender.proofs.laws.stopped_is_a_stream.Goals as goal

pub returns : goal.returns
returns c = proved
