use Rattle.sender.proofs.Taking.{calls_ignore_taken as proved}
use Rattle.sender.proofs.laws.calls_ignore_what_was_taken.Goals as goal

pub returns : goal.returns
returns c = proved
