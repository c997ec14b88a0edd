use Rattle.sender.proofs.Pieces.{open_is_beside, open_is_lent, over_is_beside, over_is_lent, pieces_are_seen}
use Rattle.sender.proofs.laws.steps_over_are_beside.Goals as goal

pub returns-clause-closed : goal.returns-clause-closed
returns-clause-closed c = over_is_beside

pub returns-clause-ended : goal.returns-clause-ended
returns-clause-ended c = open_is_beside

pub returns-clause-pieces : goal.returns-clause-pieces
returns-clause-pieces c = pieces_are_seen

pub returns-clause-call : goal.returns-clause-call
returns-clause-call c = over_is_lent

pub returns-clause-call_ended : goal.returns-clause-call_ended
returns-clause-call_ended c = open_is_lent
