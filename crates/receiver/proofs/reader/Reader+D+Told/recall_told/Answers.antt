use Rattle.receiver.proofs.reader.Reader+D+Told.recall_told.Goals as goal

pub returns : goal.returns
returns g c = rw (← c.self.view_is) tt
