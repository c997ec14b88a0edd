use Rattle.sender.proofs.Behind.{calls_stay_behind as proved}
use Rattle.sender.proofs.laws.calls_stay_behind.Goals as goal

pub returns : goal.returns
returns c = proved
