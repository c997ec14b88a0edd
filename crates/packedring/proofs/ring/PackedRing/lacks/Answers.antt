use Rattle.packedring.proofs.ring.PackedRing.lacks.Goals as goal

pub returns : goal.returns
returns c = rw (← c.self.view_is) c.lacks_packed.ensures
