use Rattle.traces.proofs.OneReading.{one_trace, no_bad_line, one_line}
use Rattle.traces.proofs.laws.texts_are_read_in_one_way.Goals as goal

pub returns-clause-trace : goal.returns-clause-trace
returns-clause-trace c = one_trace

pub returns-clause-either : goal.returns-clause-either
returns-clause-either c = no_bad_line

pub returns-clause-line : goal.returns-clause-line
returns-clause-line c = one_line
