use Rattle.std.proofs.Common.{◌-◌, ◌<◌}
use Rattle.chains.specs.Lacking.{SlotsKnow}
use Rattle.chains.specs.declared.lacking.Walked.{Walked}
use Rattle.chains.proofs.lacking.walk_slots.Given as goal

abbrev pub invariant-loop-step : goal.invariant-loop-step
invariant-loop-step l = (l.slot < l.core.size) × ((w : Walked) → SlotsKnow l.held l.ram.bytes l.core.descriptors l.core.size (l.core.size - l._step) l.slot w → SlotsKnow l.fn.held l.fn.ram.bytes l.fn.core.descriptors l.fn.core.size l.fn.core.size l.fn.core.taking.place w)
