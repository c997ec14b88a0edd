use Rattle.c_handle.proofs.Mirrored.{applied_mirrors}
use Rattle.c_handle.proofs.laws.applied_mirrors.Goals as goal

pub returns : goal.returns
returns c = applied_mirrors
