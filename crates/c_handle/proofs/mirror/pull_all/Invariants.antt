use Rattle.c_handle.proofs.Pulling.{ArePulled}
use Rattle.c_handle.proofs.mirror.pull_all.Given as goal

abbrev pub invariant-loop-n : goal.invariant-loop-n
invariant-loop-n l = ArePulled l.memory l.fn.ram l.ram l.fn.seen l.seen l.count l.n
