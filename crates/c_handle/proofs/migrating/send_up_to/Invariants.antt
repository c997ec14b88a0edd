use Rattle.c_handle.proofs.Migration.{IsOnWay}
use Rattle.c_handle.proofs.migrating.send_up_to.Given as goal

abbrev pub invariant-loop-left : goal.invariant-loop-left
invariant-loop-left g l = IsOnWay l.most l.fn.live l.left l.live

abbrev pub decreases-loop-left : goal.decreases-loop-left
decreases-loop-left g l = l.left
