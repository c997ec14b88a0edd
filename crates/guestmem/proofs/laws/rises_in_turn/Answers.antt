use Rattle.guestmem.proofs.RisesLaws.{rises_append}
use Rattle.guestmem.proofs.laws.rises_in_turn.Goals as goal

pub returns-clause-further : goal.returns-clause-further
returns-clause-further c = rises_append
