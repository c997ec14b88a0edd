use Rattle.std.proofs.Common.{refl}
use Rattle.packedring.proofs.Word.{quiet_packed}
use Rattle.packedring.proofs.ring.PackedRing.quiet.Goals as goal

pub returns : goal.returns
returns c = rw (← c.self.view_is) (quiet_packed _ refl)
