use Rattle.disk_calls.proofs.OldestCalls.{OldestBefore}
use Rattle.disk_calls.proofs.calls.Calls.oldest_from.Given as goal

abbrev pub invariant-loop-dev : goal.invariant-loop-dev
invariant-loop-dev l = OldestBefore l.fn.self.devices l.fn.number l.dev l.oldest
