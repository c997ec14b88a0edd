use Rattle.blk.proofs.Runs.{gave_in_parts, gave_together}
use Rattle.blk.proofs.laws.bytes_are_their_parts.Goals as goal

pub returns-clause-whole : goal.returns-clause-whole
returns-clause-whole c = gave_in_parts

pub returns-clause-parts : goal.returns-clause-parts
returns-clause-parts c = gave_together
