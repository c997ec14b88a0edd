use Rattle.std.proofs.Common.{◌∙◌, ◌<◌, ap, arith, length}
use Rattle.machine.specs.declared.shape.Shape.TheVariants.{Console}
use Rattle.c_handle.specs.Kept.{KeptSeen}
use Rattle.c_handle.specs.Resetting.{shapes_in}
use Rattle.c_handle.proofs.Resets.{goes_on}
use Rattle.c_handle.proofs.resetting.reset.Goals as goal

pub loop-dev-preserved : goal.loop-dev-preserved
loop-dev-preserved c =
    let was = c.loop-dev.invariant in
    let k = c.args.kept.now.state in
    let below : c.loop-dev.dev < length (shapes_in k) = omega (arith, c.loop-dev-test.true, c.device_count-dev-end.ensures.count) in
    record {
      way = goes_on k c.loop-dev.kept.state c.reset_device.new.kept.state (shapes_in k) c.loop-dev.dev Console below was.way (λ shape there. c.reset_device.ensures.done shape (rw was.shapes there));
      shapes = c.reset_device.ensures.shapes ∙ was.shapes;
      going = c.reset_device.ensures.going;
      pages = c.reset_device.ensures.pages;
      kind = c.reset_device.ensures.kind ∙ ap (λ (k : KeptSeen). record k { state = c.reset_device.new.kept.state }) was.kind;
    }
