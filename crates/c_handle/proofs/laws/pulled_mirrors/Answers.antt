use Rattle.c_handle.proofs.Mirrored.{pulled_mirrors}
use Rattle.c_handle.proofs.laws.pulled_mirrors.Goals as goal

pub returns : goal.returns
returns c = pulled_mirrors
