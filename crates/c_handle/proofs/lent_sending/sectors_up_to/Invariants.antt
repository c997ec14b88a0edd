use Rattle.c_handle.proofs.LentSending.{IsOnWayLent}
use Rattle.c_handle.proofs.lent_sending.sectors_up_to.Given as goal

abbrev pub invariant-loop-left : goal.invariant-loop-left
invariant-loop-left g l = IsOnWayLent l.most l.fn.live l.left l.live

abbrev pub decreases-loop-left : goal.decreases-loop-left
decreases-loop-left g l = l.left
