use Rattle.std.proofs.Common.{rules}
use Rattle.vmig.proofs.ForgetfulDisks.{sizes_more}
use Rattle.vmig.proofs.short_file.forgetful_disks.Goals as goal

pub loop-i-preserved : goal.loop-i-preserved
loop-i-preserved c = sizes_more c.args.shapes.now _ _ _ _ (search rules) c.loop-i.invariant c.in_ok-add_forgetful.ensures
