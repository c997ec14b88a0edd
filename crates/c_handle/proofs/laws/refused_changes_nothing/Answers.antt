use Rattle.c_machine.proofs.Plain.{refused_quiet}
use Rattle.c_handle.proofs.laws.refused_changes_nothing.Goals as goal

pub returns : goal.returns
returns c = refused_quiet
