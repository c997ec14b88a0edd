use Rattle.std.proofs.Common.{◌≡◌, ◌+◌, ◌∷◌, drop, get_or, subst, sym}
use Rattle.std.proofs.lemmas.List.{drop_more}
use Rattle.chains.specs.declared.lacking.Piece.{Piece}
use Rattle.chains.specs.Lacking.{LiesInNone}
use Rattle.chains.proofs.LackLaws.{none_behind}
use Rattle.chains.proofs.lacking.is_held.Goals as goal

pub loop-one-preserved : goal.loop-one-preserved
loop-one-preserved c = λ rest.
    let i = c.loop-one.one-index in
    let held = c.args.held.now in
    let none : Piece = record { at = 0; count = 0 } in
    let one : Piece = get_or held i none in
    let split : drop i held ≡ one ∷ drop (i + 1) held = drop_more held i none c.loop-one-test.true in
    c.loop-one.invariant (subst (LiesInNone c.args.piece) (sym split) (c.has.ensures.outside c.if-has.false, rest))

pub returns-clause-fresh : goal.returns-clause-fresh
returns-clause-fresh c = λ no. c.loop-one.invariant (none_behind c.args.piece c.args.held.now c.loop-one.one-index c.loop-one-test.false)
