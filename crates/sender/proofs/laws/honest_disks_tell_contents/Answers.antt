use Rattle.sender.proofs.Told.{honest_disks_tell_contents as proved}
use Rattle.sender.proofs.laws.honest_disks_tell_contents.Goals as goal

pub returns : goal.returns
returns c = proved
