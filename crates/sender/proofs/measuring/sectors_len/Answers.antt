use Rattle.std.proofs.Common.{◌≡◌, length, map, ap, sym, ◌∙◌, arith}
use Rattle.std.proofs.lemmas.List.{length-append, length-map}
use Rattle.machine.specs.Shapes.{made_as}
use Rattle.machine.specs.Layout.{pages_of}
use Rattle.machine.specs.Seen.{state_of}
use Rattle.machine.specs.State.{DeviceState}
use Rattle.wire.specs.Stream.{texts}
use Rattle.sender.specs.Items.{disk_text, records_from, sectors_before}
use Rattle.sender.proofs.Disks.{disks_long}
use Rattle.sender.proofs.Parts.{disk_more, none_from}
use Rattle.sender.proofs.measuring.sectors_len.Goals as goal

pub loop-dev-init : goal.loop-dev-init
loop-dev-init g c =
    let m = state_of c.args.machine.now in
    let end = ap length c.shapes.ensures.shapes ∙ length-map m.devices (λ (d : DeviceState). made_as d.kind) in
    record {
      sound = c.shapes.ensures.sound;
      end = end;
      few = omega (arith, end, c.shapes.ensures.sound.few_devices);
      low = omega arith;
      sum = sym (ap length (none_from m (pages_of m)));
    }

pub loop-dev-preserved : goal.loop-dev-preserved
loop-dev-preserved g c =
    let m = state_of c.args.machine.now in
    let dev = c.loop-dev.dev in
    let before = texts (records_from m (pages_of m) (sectors_before m dev)) in
    let long = disks_long m c.loop-dev.invariant.sound in
    let counts : length (map length m.disks) ≡ length m.disks = length-map m.disks length in
    let more = disk_more m dev (omega (arith, c.loop-dev-test.true, c.loop-dev.invariant.end, long, counts)) in
    record {
      sound = c.loop-dev.invariant.sound;
      end = c.loop-dev.invariant.end;
      few = c.loop-dev.invariant.few;
      low = omega (arith, c.loop-dev.invariant.low, c.disk_len-len.ensures.short);
      sum = omega (arith, c.loop-dev.invariant.sum, c.disk_len-len.ensures.len, ap length more, length-append before (disk_text m dev));
    }
