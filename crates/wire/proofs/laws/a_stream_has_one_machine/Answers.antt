use Rattle.wire.proofs.Unique.{one_machine}
use Rattle.wire.proofs.laws.a_stream_has_one_machine.Goals as goal

pub returns : goal.returns
returns c = one_machine
