use Rattle.sender.proofs.ToldDigests.{taken_is_digested as proved}
use Rattle.sender.proofs.laws.taken_is_digested.Goals as goal

pub returns : goal.returns
returns c = proved
