use Rattle.machine.proofs.Honest.{honest_effect}
use Rattle.machine.proofs.laws.honest_disks_give_theirs.Goals as goal

pub returns : goal.returns
returns c = honest_effect
