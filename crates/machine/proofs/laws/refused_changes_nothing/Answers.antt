use Rattle.machine.proofs.Refusing.{refused_quiet}
use Rattle.machine.proofs.laws.refused_changes_nothing.Goals as goal

pub returns : goal.returns
returns c = refused_quiet
