use Rattle.std.proofs.Common.{[]}
use Rattle.std.proofs.lemmas.List.{take_all}
use Rattle.std.proofs.lemmas.List.Elements.{All-more}
use Rattle.machine.specs.First.{HasBytes}
use Rattle.machine.specs.declared.shape.Shape.TheVariants.{Net}
use Rattle.machine.proofs.machine.making.recall_all.Goals as goal

pub loop-shape-preserved : goal.loop-shape-preserved
loop-shape-preserved c = All-more HasBytes c.args.shapes.now c.loop-shape.shape-index (Net []) c.loop-shape-test.true c.loop-shape.invariant c.recall_one.ensures

pub returns : goal.returns
returns c = rw (take_all c.loop-shape.shape-index c.args.shapes.now c.loop-shape-test.false) at c.loop-shape.invariant
