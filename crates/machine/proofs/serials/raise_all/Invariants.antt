use Rattle.std.proofs.Common.{◌≡◌, ◌++◌, map, take, drop}
use Rattle.guestmem.specs.Write.{raised}
use Rattle.machine.proofs.serials.raise_all.Given as goal

abbrev pub invariant-loop-count : goal.invariant-loop-count
invariant-loop-count l = l.counts ≡ map raised (take l.count-index l.initial.counts) ++ drop l.count-index l.initial.counts
