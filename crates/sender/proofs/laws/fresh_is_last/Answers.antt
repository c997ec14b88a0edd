use Rattle.sender.proofs.Fresh.{fresh_is_last as proved}
use Rattle.sender.proofs.laws.fresh_is_last.Goals as goal

pub returns : goal.returns
returns c = proved
