use Rattle.std.proofs.Common.{arith}
use Rattle.std.proofs.lemmas.Result.{err_from_is_err_and}
use Rattle.wire.proofs.HeaderParts.{no_shapes, more_shapes, shapes_wait, shapes_bad}
use Rattle.wire.proofs.header.read_shapes.Goals as goal

pub returns-in_err-shape-clause-read : goal.returns-in_err-shape-clause-read
returns-in_err-shape-clause-read c =
    let told = err_from_is_err_and c.from_residual.result c.from_residual.ensures.1 in
    rw (told.1, told.2, c.in_err-shape.ensures.first.0) (shapes_bad c.args.limits c.loop.counter c.args.count c.args.bytes.now c.loop.rest.now c.loop.shapes.items c.loop.invariant.read c.loop-test.true c.in_err-shape.ensures.first.1)

pub returns-in_default-clause-read : goal.returns-in_default-clause-read
returns-in_default-clause-read c = shapes_wait c.args.limits c.loop.counter c.args.count c.args.bytes.now c.loop.rest.now c.loop.shapes.items c.loop.invariant.read c.loop-test.true (rw c.in_default.is at c.in_ok-shape.ensures.first)

pub loop-init : goal.loop-init
loop-init c = record {
  read = no_shapes c.args.limits c.args.bytes.now c.new-shapes.result.items c.new-shapes.ensures.items;
  few = omega arith;
}

pub loop-preserved : goal.loop-preserved
loop-preserved c =
    let first = rw c.in-Some.is at c.in_ok-shape.ensures.first in
    let few = rw c.in-Some.is at c.in_ok-shape.ensures.few in
    record {
      read = rw c.in-Ok.ensures.items (more_shapes c.args.limits c.loop.counter c.args.bytes.now c.loop.rest.now c.in-Some.after.now c.loop.shapes.items c.in-Some.shape c.loop.invariant.read first);
      few = omega (arith, few, c.loop.invariant.few);
    }
