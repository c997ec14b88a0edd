use Rattle.blk.proofs.Runs.{did_in_parts, did_together}
use Rattle.blk.proofs.laws.units_are_their_parts.Goals as goal

pub returns-clause-whole : goal.returns-clause-whole
returns-clause-whole c = did_in_parts

pub returns-clause-parts : goal.returns-clause-parts
returns-clause-parts c = did_together
