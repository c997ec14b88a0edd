use Rattle.c_handle.proofs.CallLaws.{stop_finds_none_out, stopped_hands_none}
use Rattle.c_handle.proofs.laws.stopped_has_no_call_out.Goals as goal

pub returns-clause-found : goal.returns-clause-found
returns-clause-found c = stop_finds_none_out

pub returns-clause-none : goal.returns-clause-none
returns-clause-none c = stopped_hands_none
