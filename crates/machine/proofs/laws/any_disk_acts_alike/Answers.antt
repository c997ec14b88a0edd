use Rattle.machine.proofs.Alike.{acts_alike}
use Rattle.machine.proofs.laws.any_disk_acts_alike.Goals as goal

pub returns : goal.returns
returns c = acts_alike
