use Rattle.disk_calls.proofs.Turns.{handing_is_a_turn, handing_is_no_other}
use Rattle.disk_calls.proofs.laws.handing_is_a_turn.Goals as goal

pub returns-clause-own : goal.returns-clause-own
returns-clause-own c = handing_is_a_turn

pub returns-clause-other : goal.returns-clause-other
returns-clause-other c = handing_is_no_other
