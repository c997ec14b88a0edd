use Rattle.sender.proofs.Settled.{after_is_run as proved}
use Rattle.sender.proofs.laws.after_is_run.Goals as goal

pub returns : goal.returns
returns c = proved
