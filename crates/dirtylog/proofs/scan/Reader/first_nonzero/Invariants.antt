use Rattle.std.proofs.Common.{◌≤◌, ◌-◌, ◌+◌, length}
use Rattle.dirtylog.specs.Words.{AreZeroBetween}
use Rattle.dirtylog.proofs.scan.Reader.first_nonzero.Given as goal

abbrev pub invariant-lanes : goal.invariant-lanes
invariant-lanes l = record {
  from : l.fn.from ≤ l.i;
  within : l.i ≤ length l.words;
  zeros : AreZeroBetween l.words l.fn.from l.i;
  counted : l.self.looked + l.fn.from ≤ l.fn.self.looked + l.i;
  through : l.fn.self.looked + l.i ≤ l.self.looked + l.fn.from;
}

abbrev pub decreases-lanes : goal.decreases-lanes
decreases-lanes l = length l.words - l.i

abbrev pub invariant-rest : goal.invariant-rest
invariant-rest l = record {
  from : l.fn.from ≤ l.i;
  within : l.i ≤ length l.words;
  zeros : AreZeroBetween l.words l.fn.from l.i;
  counted : l.self.looked + l.fn.from ≤ l.fn.self.looked + l.i + 8;
  through : l.fn.self.looked + l.i ≤ l.self.looked + l.fn.from;
}

abbrev pub decreases-rest : goal.decreases-rest
decreases-rest l = length l.words - l.i
