use Rattle.std.proofs.Common.{◌+◌, ◌-◌, ◌∙◌, ap, List, ℕ, true, false, drop, get_or, map, subst, sym}
use Rattle.std.proofs.lemmas.List.{drop_all, drop_more}
use Rattle.guestmem.specs.Address.{index_of}
use Rattle.chains.specs.declared.segs.Seg.{Seg}
use Rattle.chains.specs.Places.{addresses, places}
use Rattle.machine.specs.Opening.{TellsShared}
use Rattle.machine.proofs.Meeting.{none_shared, seg_indexes, shared_left, shared_right}
use Rattle.machine.proofs.sharing.segments_meet.Goals as goal

pub loop-seg-preserved : goal.loop-seg-preserved
loop-seg-preserved c = λ b rest.
    let i = c.loop-seg.seg-index in
    let segs = c.args.segs.now in
    let none : Seg = record { addr = 0; len = 0 } in
    let seg : Seg = get_or segs i none in
    let within = c.requires.inside.2 i none c.loop-seg-test.true in
    let split = ap (λ (xs : List Seg). map (index_of c.args.base) (places xs)) (drop_more segs i none c.loop-seg-test.true) ∙ seg_indexes c.args.base seg (drop (i + 1) segs) within.above in
    let here = shared_right b (addresses (seg.addr - c.args.base) seg.len) (map (index_of c.args.base) (places (drop (i + 1) segs))) c.args.piece c.if-meet.ensures rest in
    c.loop-seg.invariant b (subst (λ (is : List ℕ). TellsShared is c.args.piece b) (sym split) here)

pub returns-then-meet : goal.returns-then-meet
returns-then-meet c =
    let i = c.loop-seg.seg-index in
    let segs = c.args.segs.now in
    let none : Seg = record { addr = 0; len = 0 } in
    let seg : Seg = get_or segs i none in
    let within = c.requires.inside.2 i none c.loop-seg-test.true in
    let split = ap (λ (xs : List Seg). map (index_of c.args.base) (places xs)) (drop_more segs i none c.loop-seg-test.true) ∙ seg_indexes c.args.base seg (drop (i + 1) segs) within.above in
    let here = shared_left (addresses (seg.addr - c.args.base) seg.len) (map (index_of c.args.base) (places (drop (i + 1) segs))) c.args.piece c.if-meet.ensures in
    c.loop-seg.invariant true (subst (λ (is : List ℕ). TellsShared is c.args.piece true) (sym split) here)

pub returns : goal.returns
returns c =
    let none = drop_all c.loop-seg.seg-index c.args.segs.now c.loop-seg-test.false in
    c.loop-seg.invariant false (subst (λ (xs : List Seg). TellsShared (map (index_of c.args.base) (places xs)) c.args.piece false) (sym none) (none_shared c.args.piece))
