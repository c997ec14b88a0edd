use Rattle.std.proofs.Common.{◌≡◌, ◌+◌, ◌-◌, ◌∷◌, List, drop, take, get_or, refl, subst, sym}
use Rattle.std.proofs.lemmas.List.{drop_more}
use Rattle.chains.specs.declared.segs.Seg.{Seg}
use Rattle.chains.specs.Footprint.{Knows, place_pieces}
use Rattle.chains.specs.Places.{places}
use Rattle.chains.proofs.KnownParts.{none_left, part_known}
use Rattle.chains.proofs.lacking.lacks_bytes.Goals as goal

pub loop-seg-preserved : goal.loop-seg-preserved
loop-seg-preserved c = λ rest.
    let i = c.loop-seg.seg-index in
    let segs = c.args.segs.now in
    let none : Seg = record { addr = 0; len = 0 } in
    let seg : Seg = get_or segs i none in
    let split : drop i segs ≡ seg ∷ drop (i + 1) segs = drop_more segs i none c.loop-seg-test.true in
    let skip : c.saturating_sub-skip.result ≡ c.loop-seg.skip - seg.len = c.saturating_sub-skip.ensures in
    let behind : Knows c.args.held.now c.args.ram.now.bytes (place_pieces c.args.base (take (c.loop-seg.left - c.part_of-part.result.count) (drop (c.loop-seg.skip - seg.len) (places (drop (i + 1) segs))))) = rw skip at rest in
    let known = part_known c.args.held.now c.args.ram.now.bytes c.args.base seg (drop (i + 1) segs) c.loop-seg.skip c.loop-seg.left c.part_of-part.result (c.requires.inside i none c.loop-seg-test.true).above c.part_of-part.ensures.at c.part_of-part.ensures.count (c.if-not-is_held.ensures.known refl) behind in
    c.loop-seg.invariant (subst (λ (xs : List Seg). Knows c.args.held.now c.args.ram.now.bytes (place_pieces c.args.base (take c.loop-seg.left (drop c.loop-seg.skip (places xs))))) (sym split) known)

pub returns : goal.returns
returns c = c.loop-seg.invariant (none_left c.args.held.now c.args.ram.now.bytes c.args.base c.loop-seg.skip c.loop-seg.left c.loop-seg.seg-index c.args.segs.now c.loop-seg-test.false)
