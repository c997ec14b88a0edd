use Rattle.wire.proofs.Spelling.{one_record}
use Rattle.wire.proofs.laws.no_record_begins_another.Goals as goal

pub returns : goal.returns
returns c = one_record
