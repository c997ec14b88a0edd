use Rattle.wire.proofs.Unique.{one_version}
use Rattle.wire.proofs.laws.a_stream_has_one_version.Goals as goal

pub returns : goal.returns
returns c = one_version
