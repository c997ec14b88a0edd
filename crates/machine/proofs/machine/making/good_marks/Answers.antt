use Rattle.std.proofs.Common.{arith, get_or}
use Rattle.std.proofs.lemmas.List.Elements.{All-more}
use Rattle.blk.specs.Disk.{AreSectors}
use Rattle.machine.proofs.Dealt.{one_good}
use Rattle.machine.proofs.machine.making.good_marks.Goals as goal

pub loop-disk-preserved : goal.loop-disk-preserved
loop-disk-preserved g c =
    let i = c.loop-disk.disk-index in
    let disks = c.args.disks.now in
    let disk = c.disk-item.result in
    let here : AreSectors (g.D.Disk.state (get_or disks i disk)).sectors = rw (← c.disk-item.is) c.sectors.ensures.whole in
    record {
      room = omega arith;
      count = omega arith;
      good = one_good g.D.Disk.state disks i disk c.loop-disk.bad.items c.push_reserved.new.self.items c.in_ok-new.field-0 c.loop-disk-test.true c.disk-item.is (rw (← c.sectors.ensures.count) c.in_ok-new.ensures) c.push_reserved.ensures.items c.loop-disk.invariant.good;
      whole = All-more (λ d. AreSectors (g.D.Disk.state d).sectors) disks i disk c.loop-disk-test.true c.loop-disk.invariant.whole here;
    }
