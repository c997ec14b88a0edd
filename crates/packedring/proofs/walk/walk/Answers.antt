use Rattle.std.proofs.Common.{true, arith}
use Rattle.std.proofs.lemmas.Result.{err_from_is_err_and}
use Rattle.chains.specs.RingCore.{core_state}
use Rattle.chains.proofs.DecoderLaws.{decoded_none, decoded_more}
use Rattle.packedring.proofs.Finding.{walked_none, walked_named, walked_full, walked_stopped, passed, reached, reached_last}
use Rattle.packedring.proofs.walk.walk.Goals as goal

pub loop-last-init : goal.loop-last-init
loop-last-init c =
    let none = walked_none _ (core_state true c.args.core.now) c.args.chain.now c.requires.none_readable c.requires.none_writable in
    record {
      reached = reached _ _ _ c.add.new.chain _ _ _ c.args.first none c.requires.first c.requires.plain c.len-len.ensures c.in_ok-add.ensures.gives;
      few = omega arith;
      inside = c.requires.slot;
      decoded = decoded_none _ _ c.requires.fits;
    }

pub returns-in_err-add-clause-gives : goal.returns-in_err-add-clause-gives
returns-in_err-add-clause-gives c =
    let why = err_from_is_err_and c.from_residual.result c.from_residual.ensures.1 in
    let none = walked_none _ (core_state true c.args.core.now) c.args.chain.now c.requires.none_readable c.requires.none_writable in
    rw (why.1, why.2) (walked_stopped _ c.args.core.now _ c.add.new.chain _ _ _ c.args.first c.args.first _ c.requires.first c.requires.plain none c.requires.first (omega arith) c.len-len.ensures c.in_err-add.ensures.gives)

pub returns-then-count-size-clause-gives : goal.returns-then-count-size-clause-gives
returns-then-count-size-clause-gives c =
    walked_full _ _ _ _ _ c.args.first c.requires.first c.requires.plain (passed _ _ _ _ _ _ c.loop-last.invariant.reached c.loop-last-test.true) (omega arith)

pub returns-then-last-clause-gives : goal.returns-then-last-clause-gives
returns-then-last-clause-gives c =
    walked_named _ _ _ _ _ c.args.first c.read-last.result c.requires.first c.requires.plain (passed _ _ _ _ _ _ c.loop-last.invariant.reached c.loop-last-test.true)
    (rw c.slot_after-slot.ensures at c.read-last.ensures.descriptor) c.if-last.true

pub returns-in_err-add-2-clause-gives : goal.returns-in_err-add-2-clause-gives
returns-in_err-add-2-clause-gives c =
    let why = err_from_is_err_and c.from_residual-in_err-add-2.result c.from_residual-in_err-add-2.ensures.1 in
    let w = passed _ (core_state true c.args.core.now) _ _ _ _ c.loop-last.invariant.reached c.loop-last-test.true in
    rw (why.1, why.2)
    (walked_stopped _ c.args.core.now _ c.add-in-loop-last.new.chain _ _ _ c.args.first c.read-last.result _ c.requires.first c.requires.plain w (rw c.slot_after-slot.ensures at c.read-last.ensures.descriptor)
    (omega arith) c.len-len.ensures c.in_err-add-2.ensures.gives)

pub loop-last-preserved : goal.loop-last-preserved
loop-last-preserved c =
    let i = c.loop-last.invariant in
    let w = rw (← c.slot_after-slot.ensures) at (passed _ _ _ _ _ _ i.reached c.loop-last-test.true) in
    record {
      reached = reached _ _ _ c.add-in-loop-last.new.chain _ _ _ c.read-last.result w c.read-last.ensures.descriptor c.if-last.false c.len-len.ensures c.in_ok-add-2.ensures.gives;
      few = omega arith;
      inside = omega arith;
      decoded = decoded_more _ _ _ _ _ _ _ (omega arith) i.decoded c.read-last.ensures.decoded;
    }

pub returns-clause-gives : goal.returns-clause-gives
returns-clause-gives c = reached_last _ c.args.core.now c.loop-last.chain _ _ c.loop-last.last c.ended.result c.loop-last.invariant.reached c.loop-last.invariant.few c.loop-last-test.false c.ended.ensures
