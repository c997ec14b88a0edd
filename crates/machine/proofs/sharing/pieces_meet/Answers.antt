use Rattle.std.proofs.Common.{◌+◌, List, true, false, drop, get_or, subst, sym}
use Rattle.std.proofs.lemmas.List.{drop_all, drop_more}
use Rattle.chains.specs.declared.lacking.Piece.{Piece}
use Rattle.chains.specs.Places.{addresses}
use Rattle.machine.specs.Opening.{TellsShared}
use Rattle.machine.specs.Stored.{indexes_of}
use Rattle.machine.proofs.Meeting.{none_shared, shared_left, shared_right}
use Rattle.machine.proofs.sharing.pieces_meet.Goals as goal

pub loop-one-preserved : goal.loop-one-preserved
loop-one-preserved c = λ b rest.
    let i = c.loop-one.one-index in
    let pieces = c.args.pieces.now in
    let none : Piece = record { at = 0; count = 0 } in
    let one : Piece = get_or pieces i none in
    let split = drop_more pieces i none c.loop-one-test.true in
    let here = shared_right b (addresses one.at one.count) (indexes_of (drop (i + 1) pieces)) c.args.piece c.if-meet.ensures rest in
    c.loop-one.invariant b (subst (λ (ps : List Piece). TellsShared (indexes_of ps) c.args.piece b) (sym split) here)

pub returns-then-meet : goal.returns-then-meet
returns-then-meet c =
    let i = c.loop-one.one-index in
    let pieces = c.args.pieces.now in
    let none : Piece = record { at = 0; count = 0 } in
    let one : Piece = get_or pieces i none in
    let split = drop_more pieces i none c.loop-one-test.true in
    let here = shared_left (addresses one.at one.count) (indexes_of (drop (i + 1) pieces)) c.args.piece c.if-meet.ensures in
    c.loop-one.invariant true (subst (λ (ps : List Piece). TellsShared (indexes_of ps) c.args.piece true) (sym split) here)

pub returns : goal.returns
returns c =
    let none = drop_all c.loop-one.one-index c.args.pieces.now c.loop-one-test.false in
    c.loop-one.invariant false (subst (λ (ps : List Piece). TellsShared (indexes_of ps) c.args.piece false) (sym none) (none_shared c.args.piece))
