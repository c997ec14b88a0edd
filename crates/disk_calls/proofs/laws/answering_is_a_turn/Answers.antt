use Rattle.disk_calls.proofs.Turns.{answering_is_a_turn}
use Rattle.disk_calls.proofs.laws.answering_is_a_turn.Goals as goal

pub returns : goal.returns
returns c = answering_is_a_turn
