use Rattle.std.proofs.Common.{◌≡◌, take}
use Rattle.vmig.specs.Checking.{zero_disks}
use Rattle.vmig.proofs.checking.disks_of.Given as goal

abbrev pub invariant-loop-i : goal.invariant-loop-i
invariant-loop-i l = l.disks.items ≡ zero_disks (take l.i l.shapes)
