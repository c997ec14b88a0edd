use Rattle.std.proofs.Common.{◌≡◌, ◌+◌, ◌++◌, Ok, Err, length, rules, map, ap, sym, ◌∙◌, arith}
use Rattle.std.proofs.lemmas.List.{length-map}
use Rattle.machine.specs.Shapes.{made_as}
use Rattle.machine.specs.Layout.{pages_of}
use Rattle.machine.specs.Seen.{all_calls, state_of}
use Rattle.machine.specs.State.{DeviceState}
use Rattle.wire.specs.Sinks.{prompt}
use Rattle.wire.specs.Stream.{texts}
use Rattle.sender.specs.Items.{disk_text, records_from, sectors_before}
use Rattle.sender.proofs.Disks.{disks_long}
use Rattle.sender.proofs.Parts.{disk_more, none_from}
use Rattle.sender.proofs.SaveReads.{disk_part, disk_read, no_items}
use Rattle.sender.proofs.Sending.{sends_next, sends_nothing, takes_next, takes_nothing}
use Rattle.sender.proofs.saving.write_disks.Goals as goal

pub loop-dev-init : goal.loop-dev-init
loop-dev-init g c =
    let m = state_of c.args.machine.now in
    record {
      sound = c.shapes.ensures.sound;
      end = ap length c.shapes.ensures.shapes ∙ length-map m.devices (λ (d : DeviceState). made_as d.kind);
      calls = sym (no_items g.D.Disk.called m (pages_of m) (all_calls c.args.machine.now));
      sent = sends_nothing c.args.machine.now (g.S.Sink.state c.args.out.now) (texts (records_from m (pages_of m) 0)) (tt {0}) (none_from m (pages_of m));
      taken = takes_nothing {A = Unit {0}} c.args.machine.now (prompt c.args.sum.now.taken) (texts (records_from m (pages_of m) 0)) (tt {0}) (none_from m (pages_of m));
    }

pub loop-dev-preserved : goal.loop-dev-preserved
loop-dev-preserved g c =
    let m = state_of c.args.machine.now in
    let dev = c.loop-dev.dev in
    let before = texts (records_from m (pages_of m) (sectors_before m dev)) in
    let after = texts (records_from m (pages_of m) (sectors_before m (dev + 1))) in
    let long = disks_long m c.loop-dev.invariant.sound in
    let counts : length (map length m.disks) ≡ length m.disks = length-map m.disks length in
    let more : before ++ disk_text m dev ≡ after = sym (disk_more m dev (omega (arith, c.loop-dev-test.true, c.loop-dev.invariant.end, long, counts))) in
    record {
      sound = c.loop-dev.invariant.sound;
      end = c.loop-dev.invariant.end;
      calls = disk_read g.D.Disk.called c.args.machine.now c.loop-dev.machine c.write_disk.new.machine dev c.loop-dev.invariant.sent.state c.loop-dev.invariant.calls
          (omega (arith, c.loop-dev-test.true, c.loop-dev.invariant.end, long, counts)) (rw c.in_ok-write_disk.was at c.write_disk.ensures.calls);
      sent = sends_next c.args.machine.now c.loop-dev.machine c.write_disk.new.machine (g.S.Sink.state c.args.out.now) (g.S.Sink.state c.loop-dev.out) (g.S.Sink.state c.write_disk.new.out) before after (λ k. disk_text k dev) (tt {0}) (Ok (tt {0})) more
          c.loop-dev.invariant.sent (rw c.in_ok-write_disk.was at c.write_disk.ensures.sent);
      taken = takes_next {B = Unit {0}} c.args.machine.now c.loop-dev.machine c.write_disk.new.machine (g.S.Sink.state c.args.out.now) (g.S.Sink.state c.loop-dev.out) (prompt c.args.sum.now.taken) (prompt c.loop-dev.sum.taken) (prompt c.write_disk.new.sum.taken) before after (λ k. disk_text k dev) (tt {0}) (Ok (tt {0})) more
          c.loop-dev.invariant.sent c.loop-dev.invariant.taken (rw c.in_ok-write_disk.was at c.write_disk.ensures.taken);
    }

pub returns-in_err-write_disk-clause-calls : goal.returns-in_err-write_disk-clause-calls
returns-in_err-write_disk-clause-calls g c =
    let m = state_of c.args.machine.now in
    let failed : c.from_residual.result ≡ Err c.in_err-write_disk.field-0.0 = search rules in
    let long = disks_long m c.loop-dev.invariant.sound in
    let counts : length (map length m.disks) ≡ length m.disks = length-map m.disks length in
    rw failed (disk_part g.D.Disk.called c.args.machine.now c.loop-dev.machine c.write_disk.new.machine c.loop-dev.dev c.loop-dev.invariant.sent.state c.loop-dev.invariant.calls
    (omega (arith, c.loop-dev-test.true, c.loop-dev.invariant.end, long, counts)) counts (rw c.in_err-write_disk.was at c.write_disk.ensures.calls))
