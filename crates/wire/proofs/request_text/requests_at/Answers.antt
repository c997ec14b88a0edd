use Rattle.std.proofs.Common.{rules, ◌≡◌, ◌++◌, ◌∷◌, [], Some, arith, length-append}
use Rattle.wire.specs.RequestReading.{request_of}
use Rattle.wire.proofs.Lists.{several_go_on}
use Rattle.wire.proofs.request_text.requests_at.Goals as goal

pub loop-preserved : goal.loop-preserved
loop-preserved c =
    let items : c.push.new.self ≡ c.loop.requests ++ c.in-Some.request ∷ [] = search rules in
    let found : request_of c.loop.rest.now ≡ Some (c.in-Some.request, c.in-Some.after.now) = search rules in
    record {
      many = rw items (omega (arith, length-append c.loop.requests (c.in-Some.request ∷ []), c.loop.invariant.many));
      whole = rw items (several_go_on request_of c.args.count c.loop.counter c.loop.requests c.loop.rest.now c.in-Some.after.now c.in-Some.request _ c.loop-test.true found c.loop.invariant.whole);
    }
