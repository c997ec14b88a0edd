use Rattle.sender.proofs.lending.beside.LiveOver+D+W+ParkedRam.lacks.Goals as goal

pub returns-clause-lacking : goal.returns-clause-lacking
returns-clause-lacking g c = rw (← c.self.view_is) c.lacks-lacking.ensures.lacking
