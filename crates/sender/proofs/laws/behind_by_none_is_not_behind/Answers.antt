use Rattle.sender.proofs.Behind.{behind_by_none as proved}
use Rattle.sender.proofs.laws.behind_by_none_is_not_behind.Goals as goal

pub returns : goal.returns
returns c = proved
