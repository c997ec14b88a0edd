use Rattle.traces.proofs.writing.put_copied.Goals as goal

pub returns-in-Sector-clause-err : goal.returns-in-Sector-clause-err
returns-in-Sector-clause-err g c = rw c.in-Sector.is c.put_pair.ensures.err
