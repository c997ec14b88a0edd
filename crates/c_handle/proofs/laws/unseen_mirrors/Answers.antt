use Rattle.c_handle.proofs.Mirrored.{unseen_mirrors}
use Rattle.c_handle.proofs.laws.unseen_mirrors.Goals as goal

pub returns : goal.returns
returns c = unseen_mirrors
