use Rattle.sender.proofs.lending.beside.LiveOver+D+W+ParkedRam.asking.Goals as goal

pub returns-clause-asking : goal.returns-clause-asking
returns-clause-asking g c = rw (← c.self.view_is) c.asking-asking.ensures.asking
