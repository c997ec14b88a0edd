use Rattle.std.proofs.Common.{rules, ◌≡◌, ◌++◌, ◌∷◌, [], Some, arith, length-append}
use Rattle.wire.specs.FrameReading.{frame_of}
use Rattle.wire.proofs.Lists.{several_go_on}
use Rattle.wire.proofs.frame_reading.frames_at.Goals as goal

pub loop-preserved : goal.loop-preserved
loop-preserved c =
    let longest = c.args.longest in
    let items : c.push.new.self.frames ≡ c.loop.inbox.frames ++ c.in-Some.frame.now ∷ [] = search rules in
    let found : frame_of longest c.loop.rest.now ≡ Some (c.in-Some.frame.now, c.in-Some.after.now) = search rules in
    record {
      longest = search rules;
      many = rw items (omega (arith, length-append c.loop.inbox.frames (c.in-Some.frame.now ∷ []), c.loop.invariant.many));
      whole = rw items (several_go_on (frame_of longest) c.args.count c.loop.counter c.loop.inbox.frames c.loop.rest.now c.in-Some.after.now c.in-Some.frame.now _ c.loop-test.true found c.loop.invariant.whole);
    }
