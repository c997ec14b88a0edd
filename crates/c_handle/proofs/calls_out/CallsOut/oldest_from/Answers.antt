use Rattle.c_handle.proofs.calls_out.CallsOut.oldest_from.Goals as goal

pub returns-clause-none : goal.returns-clause-none
returns-clause-none c = rw (← c.self.view_is) (c.oldest_from.ensures.none)
