use Rattle.std.proofs.Common.{◌∙◌}
use Rattle.c_machine.proofs.MappingImages.{all_counted}
use Rattle.c_machine.proofs.mapping.are_counted.Goals as goal

pub returns-clause-counted : goal.returns-clause-counted
returns-clause-counted c =
    let i = c.loop-shape in
    rw i.invariant.same (all_counted c.args.shapes.now c.args.images.now i.shape-index i.at c.loop-shape-test.false i.invariant.within ∙ i.invariant.rest)
