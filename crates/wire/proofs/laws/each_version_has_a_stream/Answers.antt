use Rattle.wire.proofs.Whole.{each_version}
use Rattle.wire.proofs.laws.each_version_has_a_stream.Goals as goal

pub returns : goal.returns
returns c = each_version
