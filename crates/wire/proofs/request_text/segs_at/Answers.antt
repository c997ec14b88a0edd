use Rattle.std.proofs.Common.{rules, ◌≡◌, ◌++◌, ◌∷◌, [], arith, drop, length-append}
use Rattle.std.proofs.lemmas.List.{length-drop}
use Rattle.wire.specs.RequestReading.{seg_of}
use Rattle.wire.proofs.RequestLemmas.{segs_go_on, segs_end}
use Rattle.wire.proofs.request_text.segs_at.Goals as goal

pub loop-preserved : goal.loop-preserved
loop-preserved c =
    let after : c.split_at.result.1.now ≡ drop 12 c.loop.rest.now = search rules in
    let items : c.push.new.self ≡ c.loop.segs ++ seg_of c.loop.rest.now ∷ [] = search rules in
    record {
      count = rw items (omega (arith, length-append c.loop.segs (seg_of c.loop.rest.now ∷ []), c.loop.invariant.count));
      room = rw after (omega (arith, length-drop 12 c.loop.rest.now, c.loop.invariant.room, c.loop-test.true));
      whole = rw (after, items) (segs_go_on c.loop.segs c.args.count c.loop.counter c.loop.rest.now _ c.loop-test.true c.loop.invariant.whole);
    }

pub returns : goal.returns
returns c = segs_end c.loop.segs c.args.count c.loop.counter c.loop.rest.now _ c.loop-test.false c.loop.invariant.whole
