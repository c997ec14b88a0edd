use Rattle.receiver.proofs.reader.Reader+D.recall.Goals as goal

pub returns : goal.returns
returns g c = rw (← c.self.view_is) tt
