use Rattle.c_handle.proofs.CallLaws.{first_calls_are_from, hands_stay_from, answers_stay_from}
use Rattle.c_handle.proofs.laws.calls_stay_from.Goals as goal

pub returns-clause-first : goal.returns-clause-first
returns-clause-first c = first_calls_are_from

pub returns-clause-hands : goal.returns-clause-hands
returns-clause-hands c = hands_stay_from

pub returns-clause-answers : goal.returns-clause-answers
returns-clause-answers c = answers_stay_from
