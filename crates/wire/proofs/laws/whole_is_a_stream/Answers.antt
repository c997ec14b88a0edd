use Rattle.wire.proofs.Whole.{whole_is_stream}
use Rattle.wire.proofs.laws.whole_is_a_stream.Goals as goal

pub returns : goal.returns
returns c = whole_is_stream
