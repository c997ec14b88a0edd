use Rattle.machine.proofs.forgetting.forget.Goals as goal

pub returns-clause-fit : goal.returns-clause-fit
returns-clause-fit c = λ ram fit. c.forget_at-2.ensures.fit ram (c.forget_at.ensures.fit ram fit)
