use Rattle.std.proofs.Common.{◌≡◌, ◌+◌, ◌-◌, ◌∷◌, List, arith, drop, get_or, map, refl, subst, sym, take}
use Rattle.std.specs.Prelude.{None, Some}
use Rattle.std.proofs.lemmas.List.{drop_more}
use Rattle.guestmem.specs.Address.{index_of}
use Rattle.chains.specs.Places.{places}
use Rattle.chains.specs.declared.lacking.Piece.{Piece}
use Rattle.chains.specs.declared.segs.Seg.{Seg}
use Rattle.machine.specs.Writing.{IsNext}
use Rattle.machine.proofs.Writing.{part_here, part_none, part_past}
use Rattle.machine.proofs.stores.parts.part_from.Goals as goal

pub returns-then-skip-len : goal.returns-then-skip-len
returns-then-skip-len c =
    let i = c.loop-seg.seg-index in
    let segs = c.args.segs.now in
    let none : Seg = record { addr = 0; len = 0 } in
    let seg : Seg = get_or segs i none in
    let split : drop i segs ≡ seg ∷ drop (i + 1) segs = drop_more segs i none c.loop-seg-test.true in
    let within = c.requires.inside.2 i none c.loop-seg-test.true in
    let p : Piece = record { at = seg.addr - c.args.base + c.loop-seg.skip; count = c.min.result } in
    let here = part_here c.args.base seg (drop (i + 1) segs) c.loop-seg.skip c.args.left p within.above c.if-skip-len.true c.requires.some refl (omega (arith, c.min.ensures)) (omega (arith, c.min.ensures)) (omega (arith, c.min.ensures, c.requires.some, c.if-skip-len.true)) in
    c.loop-seg.invariant (Some p) (subst (λ (xs : List Seg). IsNext (map (index_of c.args.base) (take c.args.left (drop c.loop-seg.skip (places xs)))) 0 (Some p)) (sym split) here)

pub loop-seg-preserved : goal.loop-seg-preserved
loop-seg-preserved c = λ r rest.
    let i = c.loop-seg.seg-index in
    let segs = c.args.segs.now in
    let none : Seg = record { addr = 0; len = 0 } in
    let seg : Seg = get_or segs i none in
    let split : drop i segs ≡ seg ∷ drop (i + 1) segs = drop_more segs i none c.loop-seg-test.true in
    let behind = part_past seg (drop (i + 1) segs) c.loop-seg.skip (omega (arith, c.if-skip-len.false)) in
    let here : IsNext (map (index_of c.args.base) (take c.args.left (drop c.loop-seg.skip (places (seg ∷ drop (i + 1) segs))))) 0 r = rw behind rest in
    c.loop-seg.invariant r (subst (λ (xs : List Seg). IsNext (map (index_of c.args.base) (take c.args.left (drop c.loop-seg.skip (places xs)))) 0 r) (sym split) here)

pub returns : goal.returns
returns c = c.loop-seg.invariant None (part_none c.args.base c.args.segs.now c.loop-seg.seg-index c.loop-seg.skip c.args.left c.loop-seg-test.false)
