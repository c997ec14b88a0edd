use Rattle.disk_calls.proofs.Parts.{whole_may_go_in_part as proved}
use Rattle.disk_calls.proofs.laws.whole_may_go_in_part.Goals as goal

pub returns : goal.returns
returns c = proved
