use Rattle.std.proofs.Common.{take}
use Rattle.std.specs.List.{All}
use Rattle.blk.specs.Disk.{AreSectors}
use Rattle.receiver.proofs.opening.recall_disks.Given as goal

abbrev pub invariant-loop-disk : goal.invariant-loop-disk
invariant-loop-disk g l = All (λ d. AreSectors (g.D.Disk.state d).sectors) (take l.disk-index l.disks)
