use Rattle.std.proofs.Common.{◌≡◌, ◌++◌, drop, map, replicate}
use Rattle.machine.specs.Shapes.{disk_sizes}
use Rattle.c_machine.proofs.making.zero_disks.Given as goal

abbrev pub invariant-loop-shape : goal.invariant-loop-shape
invariant-loop-shape l = l.disks.items ++ map (λ n. replicate n (replicate 512 0)) (disk_sizes (drop l.shape-index l.shapes)) ≡ map (λ n. replicate n (replicate 512 0)) (disk_sizes l.shapes)
