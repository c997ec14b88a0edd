use Rattle.c_handle.proofs.calls_out.CallsOut.find.Goals as goal

pub returns-clause-none : goal.returns-clause-none
returns-clause-none c = rw (← c.self.view_is) (c.find.ensures.none)
