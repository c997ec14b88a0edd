use Rattle.std.proofs.lemmas.List.{take_all}
use Rattle.std.proofs.lemmas.List.Elements.{All-map, All-more}
use Rattle.blk.specs.Disk.{AreSectors, DiskState}
use Rattle.receiver.proofs.opening.recall_disks.Goals as goal

pub loop-disk-preserved : goal.loop-disk-preserved
loop-disk-preserved g c =
    All-more (λ d. AreSectors (g.D.Disk.state d).sectors) c.args.disks.now c.loop-disk.disk-index c.disk-item.result c.loop-disk-test.true c.loop-disk.invariant (rw (← c.disk-item.is) c.sectors-count.ensures.whole)

pub returns : goal.returns
returns g c =
    All-map (λ (d : DiskState). AreSectors d.sectors) g.D.Disk.state c.args.disks.now (rw (take_all c.loop-disk.disk-index c.args.disks.now c.loop-disk-test.false) at c.loop-disk.invariant)
