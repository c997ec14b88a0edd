use Rattle.std.proofs.Common.{◌≡◌, ◌+◌, ◌-◌, ◌<◌, ◌∙◌, length, arith}
use Rattle.chains.specs.declared.segs.Seg.{Seg}
use Rattle.chains.proofs.Copies.{empty_last, last_writes}
use Rattle.chains.proofs.copy.last_byte.Goals as goal

pub returns-then-seg-gt0-clause-last : goal.returns-then-seg-gt0-clause-last
returns-then-seg-gt0-clause-last c =
    let none : Seg = record { addr = 0; len = 0 } in
    let i = c.loop-left.left - 1 in
    let next : i + 1 ≡ c.loop-left.left = omega (arith, c.loop-left-test.true) in
    let below : i < length c.args.segs.now = omega (arith, c.loop-left-test.true, c.loop-left.invariant.few) in
    last_writes c.args.base c.args.segs.now i none below (rw next c.loop-left.invariant.same) (omega (arith, c.if-seg-gt0.true)) (c.requires.inside i none below).above

pub loop-left-preserved : goal.loop-left-preserved
loop-left-preserved c =
    let none : Seg = record { addr = 0; len = 0 } in
    let i = c.loop-left.left - 1 in
    let next : i + 1 ≡ c.loop-left.left = omega (arith, c.loop-left-test.true) in
    let below : i < length c.args.segs.now = omega (arith, c.loop-left-test.true, c.loop-left.invariant.few) in
    record {
      few = omega (arith, c.loop-left.invariant.few);
      same = empty_last c.args.segs.now i none below (omega (arith, c.if-seg-gt0.false)) ∙ (rw next c.loop-left.invariant.same);
    }
