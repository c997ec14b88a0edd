use Rattle.wire.proofs.Unique.{one_count}
use Rattle.wire.proofs.laws.a_stream_has_one_count_of_rounds.Goals as goal

pub returns : goal.returns
returns c = one_count
