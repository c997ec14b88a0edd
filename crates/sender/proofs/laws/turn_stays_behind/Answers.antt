use Rattle.sender.proofs.DeviceTurns.{turn_stays_behind}
use Rattle.sender.proofs.laws.turn_stays_behind.Goals as goal

pub returns : goal.returns
returns c = turn_stays_behind
