use Rattle.disk_calls.proofs.Happenings.{machines_meet}
use Rattle.disk_calls.proofs.laws.machines_meet_calls.Goals as goal

pub returns : goal.returns
returns c = machines_meet
