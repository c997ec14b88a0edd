use Rattle.std.proofs.Common.{◌≡◌, ◌++◌, false, map, drop, replicate}
use Rattle.receiver.specs.Disks.{sizes_of}
use Rattle.receiver.proofs.opening.new_marks.Given as goal

abbrev pub invariant-loop-disk : goal.invariant-loop-disk
invariant-loop-disk g l = l.bad.items ++ map (λ n. replicate n false) (sizes_of g.D.Disk.state (drop l.disk-index l.disks)) ≡ map (λ n. replicate n false) (sizes_of g.D.Disk.state l.disks)
