use Rattle.std.proofs.Common.{◌≡◌, length}
use Rattle.scenarios.proofs.disks.fill.Given as goal

abbrev pub invariant-loop-n : goal.invariant-loop-n
invariant-loop-n l = length l.disk ≡ length l.fn.disk
