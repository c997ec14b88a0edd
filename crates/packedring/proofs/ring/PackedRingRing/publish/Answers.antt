use Rattle.std.proofs.Common.{refl}
use Rattle.chains.specs.Publish.{packed_published}
use Rattle.packedring.proofs.ring.PackedRingRing.publish.Goals as goal

pub returns-clause-bytes : goal.returns-clause-bytes
unfolding packed_published
returns-clause-bytes g c = rw (← c.self.view_is) (simp (c.put_in_page.ensures.bytes, c.used_bytes-bytes.ensures, c.used_flags.ensures) refl)

pub returns-clause-log : goal.returns-clause-log
unfolding packed_published
returns-clause-log g c = rw (← c.self.view_is) (simp (c.put_in_page.ensures.log, c.used_bytes-bytes.ensures) refl)

pub returns-clause-rises : goal.returns-clause-rises
unfolding packed_published
returns-clause-rises g c = rw (← c.self.view_is) (rw c.used_bytes-bytes.ensures at c.put_in_page.ensures.rises)
