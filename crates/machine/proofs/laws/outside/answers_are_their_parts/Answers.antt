use Rattle.machine.proofs.OutsideParts.{did_in_parts, did_together, gave_in_parts, gave_together}
use Rattle.machine.proofs.laws.outside.answers_are_their_parts.Goals as goal

pub returns-clause-given : goal.returns-clause-given
returns-clause-given c = gave_in_parts

pub returns-clause-given_together : goal.returns-clause-given_together
returns-clause-given_together c = gave_together

pub returns-clause-done : goal.returns-clause-done
returns-clause-done c = did_in_parts

pub returns-clause-done_together : goal.returns-clause-done_together
returns-clause-done_together c = did_together
