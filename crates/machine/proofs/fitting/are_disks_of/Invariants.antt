use Rattle.std.proofs.Common.{◌≡◌, drop, length, map}
use Rattle.machine.specs.First.{are_same}
use Rattle.machine.specs.Shapes.{disk_sizes}
use Rattle.machine.proofs.fitting.are_disks_of.Given as goal

abbrev pub invariant-loop-shape : goal.invariant-loop-shape
invariant-loop-shape g l =
    are_same (disk_sizes (drop l.shape-index l.shapes)) (map (λ d. length (g.D.Disk.state d).sectors) l.rest) ≡ are_same (disk_sizes l.shapes) (map (λ d. length (g.D.Disk.state d).sectors) l.disks)
