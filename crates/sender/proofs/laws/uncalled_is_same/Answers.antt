use Rattle.sender.proofs.Uncalled.{uncalled_is_same as proved}
use Rattle.sender.proofs.laws.uncalled_is_same.Goals as goal

pub returns : goal.returns
returns c = proved
