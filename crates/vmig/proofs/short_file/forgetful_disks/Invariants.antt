use Rattle.std.proofs.Common.{◌≡◌, take}
use Rattle.machine.specs.Shapes.{disk_sizes}
use Rattle.vmig.proofs.short_file.forgetful_disks.Given as goal

abbrev pub invariant-loop-i : goal.invariant-loop-i
invariant-loop-i l = l.disks.items ≡ disk_sizes (take l.i l.shapes)
