use Rattle.machine.proofs.Asked.{asked_due, asking_publishing, quiet_kept}
use Rattle.machine.proofs.laws.beside.asking_is_publishing.Goals as goal

pub returns-clause-publishing : goal.returns-clause-publishing
returns-clause-publishing c = asking_publishing

pub returns-clause-due : goal.returns-clause-due
returns-clause-due c = asked_due

pub returns-clause-quiet : goal.returns-clause-quiet
returns-clause-quiet c = quiet_kept
