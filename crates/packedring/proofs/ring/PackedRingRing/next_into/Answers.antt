use Rattle.std.proofs.Common.{rules}
use Rattle.chains.proofs.ChainLaws.{gives_bounded}
use Rattle.packedring.proofs.ring.PackedRingRing.next_into.Goals as goal

pub returns-clause-bounded : goal.returns-clause-bounded
returns-clause-bounded c = gives_bounded _ _ c.of.result _ (search rules)
