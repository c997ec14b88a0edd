use Rattle.disk_calls.proofs.OldestCalls.{OldestIn}
use Rattle.disk_calls.proofs.device_calls.DeviceCalls.oldest_from.Given as goal

abbrev pub invariant-loop-i : goal.invariant-loop-i
invariant-loop-i l = OldestIn l.fn.self.outs l.fn.number l.i l.oldest
