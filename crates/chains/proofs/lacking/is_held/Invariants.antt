use Rattle.std.proofs.Common.{drop}
use Rattle.chains.specs.Lacking.{LiesInNone}
use Rattle.chains.proofs.lacking.is_held.Given as goal

abbrev pub invariant-loop-one : goal.invariant-loop-one
invariant-loop-one l = LiesInNone l.piece (drop l.one-index l.held) → LiesInNone l.fn.piece l.fn.held
