use Rattle.traces.proofs.OneReading.{one_list, no_other_line, one_other_line}
use Rattle.traces.proofs.laws.events_are_read_in_one_way.Goals as goal

pub returns-clause-events : goal.returns-clause-events
returns-clause-events c = one_list

pub returns-clause-either : goal.returns-clause-either
returns-clause-either c = no_other_line

pub returns-clause-line : goal.returns-clause-line
returns-clause-line c = one_other_line
