use Rattle.std.proofs.Common.{take}
use Rattle.std.specs.List.{All}
use Rattle.machine.specs.First.{HasBytes}
use Rattle.machine.proofs.machine.making.recall_all.Given as goal

abbrev pub invariant-loop-shape : goal.invariant-loop-shape
invariant-loop-shape l = All HasBytes (take l.shape-index l.shapes)
