use Rattle.disk_calls.proofs.LostDisks.{lost_makes_nothing_durable}
use Rattle.disk_calls.proofs.laws.lost_disk_makes_nothing_durable.Goals as goal

pub returns : goal.returns
returns c = lost_makes_nothing_durable
