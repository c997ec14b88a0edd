use Rattle.std.proofs.Common.{◌-◌}
use Rattle.chains.specs.Lacking.{WalkKnows}
use Rattle.chains.specs.declared.lacking.Walked.{Walked}
use Rattle.chains.proofs.lacking.walk_held.Given as goal

abbrev pub invariant-loop-step : goal.invariant-loop-step
invariant-loop-step l = (w : Walked) → WalkKnows l.held l.ram.bytes l.table l.entries (l.room - l._step) l.index w → WalkKnows l.fn.held l.fn.ram.bytes l.fn.table l.fn.entries l.fn.room l.fn.first w
