use Rattle.receiver.proofs.Fitting.{IsNumbered}
use Rattle.receiver.proofs.opening.number_items.Given as goal

abbrev pub invariant-loop-shape : goal.invariant-loop-shape
invariant-loop-shape l = IsNumbered l.pages l.shapes l.shape-index l.firsts.items l.first
