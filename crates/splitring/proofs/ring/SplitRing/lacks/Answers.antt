use Rattle.splitring.proofs.ring.SplitRing.lacks.Goals as goal

pub returns : goal.returns
returns c = rw (← c.self.view_is) c.lacks_split.ensures
