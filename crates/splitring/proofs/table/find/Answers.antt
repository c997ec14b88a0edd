use Rattle.std.proofs.Common.{false, [], refl}
use Rattle.std.proofs.lemmas.Result.{err_from_is_err_and}
use Rattle.chains.specs.RingCore.{core_state}
use Rattle.chains.proofs.HeldLaws.{held_none}
use Rattle.splitring.proofs.Found.{found_end, found_table, found_none}
use Rattle.splitring.proofs.table.find.Goals as goal

pub returns-in_err-is_named-clause-gives : goal.returns-in_err-is_named-clause-gives
returns-in_err-is_named-clause-gives c =
    let why = err_from_is_err_and c.from_residual.result c.from_residual.ensures.1 in
    let none = c.in_err-is_named.ensures.gives [] (held_none _ _ _ c.clear.ensures c.clear-2.ensures) in
    rw (why.1, why.2) (found_none _ (core_state false c.args.core.now) c.args.first c.walk.new.chain c.walk.new.chain c.walk.new.last _ refl c.requires.available c.requires.head none)

pub returns-then-is_named-clause-gives : goal.returns-then-is_named-clause-gives
returns-then-is_named-clause-gives c =
    let b = rw c.if-is_named.true at (c.in_ok-is_named.ensures.gives [] (held_none _ _ _ c.clear.ensures c.clear-2.ensures)) in
    found_table _ (core_state false c.args.core.now) c.args.first c.walk.new.last c.walk.new.chain c.follow.new.chain _ refl c.requires.available c.requires.head b (c.follow.ensures.gives b.front b.held)

pub returns-clause-gives : goal.returns-clause-gives
returns-clause-gives c =
    let g = rw c.if-is_named.false at (c.in_ok-is_named.ensures.gives [] (held_none _ _ _ c.clear.ensures c.clear-2.ensures)) in
    found_end _ (core_state false c.args.core.now) c.args.first c.walk.new.chain _ refl c.requires.available c.requires.head g c.ended.ensures
