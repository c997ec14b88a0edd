use Rattle.std.proofs.Common.{rules, arith}
use Rattle.std.proofs.lemmas.Result.{err_from_is_err_and}
use Rattle.splitring.proofs.Found.{followed_end, none_in_table, followed_none}
use Rattle.splitring.proofs.table.follow.Goals as goal

pub returns-in_err-is_nested-clause-gives : goal.returns-in_err-is_nested-clause-gives
returns-in_err-is_nested-clause-gives c = λ front h.
    let why = err_from_is_err_and c.from_residual.result c.from_residual.ensures.1 in
    rw (why.1, why.2) (followed_none _ _ _ _ front c.args.last.now c.walk.new.last c.walk.new.chain c.walk.new.chain _ (search rules) (search rules) (c.in_err-is_nested.ensures.gives front h))

pub returns-then-is_nested-clause-gives : goal.returns-then-is_nested-clause-gives
returns-then-is_nested-clause-gives c = λ front h.
    none_in_table _ _ _ _ _ front c.args.last.now c.walk.new.last c.walk.new.chain c.walk.new.chain (rw c.if-is_nested.true at (c.in_ok-is_nested.ensures.gives front h))

pub returns-clause-gives : goal.returns-clause-gives
returns-clause-gives c = λ front h.
    followed_end _ _ _ _ _ front c.args.last.now c.walk.new.chain _ (search rules) (search rules) (omega (arith, h.count)) (rw c.if-is_nested.false at (c.in_ok-is_nested.ensures.gives front h)) c.ended.ensures
