use Rattle.std.proofs.Common.{refl}
use Rattle.sha2.specs.Sha256.{hash_after}
use Rattle.c_digest.proofs.digest.Digest.begin.Goals as goal

pub returns : goal.returns
unfolding hash_after
returns c = (refl, refl, (refl, refl))
