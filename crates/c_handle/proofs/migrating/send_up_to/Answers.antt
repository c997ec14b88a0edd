use Rattle.std.proofs.Common.{◌<◌, arith}
use Rattle.c_handle.proofs.Migration.{none_left, one_refused, one_sent}
use Rattle.c_handle.proofs.migrating.send_up_to.Goals as goal

pub returns-then-remaining-eq0 : goal.returns-then-remaining-eq0
returns-then-remaining-eq0 g c =
    let more : 0 < c.loop-left.left = omega (arith, c.loop-left-test.true) in
    none_left c.args.most c.loop-left.left c.remaining.result.due c.args.live.now c.loop-left.live more c.remaining.ensures.due c.if-remaining-eq0.true c.loop-left.invariant

pub returns-in-Err : goal.returns-in-Err
returns-in-Err g c =
    let more : 0 < c.loop-left.left = omega (arith, c.loop-left-test.true) in
    one_refused c.args.most c.loop-left.left c.remaining.result.due c.args.live.now c.loop-left.live c.copy.new.self c.copy.result c.in-Err.error c.mig_status.result c.in-Err.is more c.remaining.ensures.due c.if-remaining-eq0.false c.recall.ensures c.copy.ensures.served c.mig_status.ensures c.loop-left.invariant

pub loop-left-preserved : goal.loop-left-preserved
loop-left-preserved g c status next rest =
    let more : 0 < c.loop-left.left = omega (arith, c.loop-left-test.true) in
    one_sent c.args.most c.loop-left.left c.remaining.result.due c.args.live.now c.loop-left.live c.copy.new.self c.copy.result c.in_default.field-0 c.in_default.is more c.remaining.ensures.due c.if-remaining-eq0.false c.recall.ensures c.copy.ensures.served c.loop-left.invariant status next rest
