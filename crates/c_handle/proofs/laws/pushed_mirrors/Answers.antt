use Rattle.c_handle.proofs.Mirrored.{pushed_mirrors}
use Rattle.c_handle.proofs.laws.pushed_mirrors.Goals as goal

pub returns : goal.returns
returns c = pushed_mirrors
