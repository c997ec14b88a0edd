use Rattle.std.proofs.Common.{rules}
use Rattle.vmig.proofs.MemoryDisks.{zeros_more}
use Rattle.vmig.proofs.checking.disks_of.Goals as goal

pub loop-i-preserved : goal.loop-i-preserved
loop-i-preserved c = zeros_more c.args.shapes.now _ _ _ _ (search rules) c.loop-i.invariant c.in_ok-add_disk.ensures
