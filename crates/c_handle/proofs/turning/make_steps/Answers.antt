use Rattle.std.proofs.Common.{◌≤◌, arith, refl}
use Rattle.c_handle.proofs.CallTurns.{begins, goes, used_up}
use Rattle.c_handle.proofs.turning.make_steps.Goals as goal

pub loop-made-init : goal.loop-made-init
loop-made-init c = begins c.args.kept.now c.args.turn.now c.args.buf.now

pub loop-made-preserved : goal.loop-made-preserved
loop-made-preserved c =
    let i = c.loop-made in
    let left : 1 ≤ i.turn.left = omega (arith, i.invariant.left, c.loop-made-test.true) in
    goes c.args.kept.now c.args.turn.now c.args.buf.now i.made i.kept i.turn i.buf c.make_next.new.buf c.make_next.result c.make_next.new.kept c.make_next.new.turn i.invariant left c.in-Made.is c.make_next.ensures.once c.make_next.ensures.kind

pub returns-clause-ended : goal.returns-clause-ended
returns-clause-ended c =
    let i = c.loop-made in
    used_up c.args.kept.now c.args.turn.now c.args.buf.now i.made i.kept i.turn i.buf i.buf c.more_or_none.result i.kept i.turn i.invariant (record {
      none_left = omega (arith, i.invariant.left, c.loop-made-test.false);
      named_status = c.next_step.result;
      step = record { dev = c.next_step.new.dev; pick = c.next_step.new.pick };
      named = c.next_step.ensures;
      status_is = c.more_or_none.ensures;
      same = (refl, refl);
      turn_same = refl;
    })
