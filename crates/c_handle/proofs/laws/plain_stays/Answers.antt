use Rattle.c_machine.proofs.Plain.{plain_stays}
use Rattle.c_handle.proofs.laws.plain_stays.Goals as goal

pub returns : goal.returns
returns c = plain_stays
