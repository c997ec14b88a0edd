use Rattle.std.proofs.Common.{◌≡◌, ◌∷◌, ◌++◌, [], take, get_or, ◌+◌, refl, arith}
use Rattle.std.proofs.lemmas.List.{take_more, map-append}
use Rattle.machine.specs.Shapes.{first_device}
use Rattle.machine.specs.declared.shape.Shape.TheVariants.{Net}
use Rattle.machine.proofs.machine.making.new_states.Goals as goal

pub loop-shape-preserved : goal.loop-shape-preserved
loop-shape-preserved c =
    let i = c.loop-shape.shape-index in
    let shapes = c.args.shapes.now in
    let shape = get_or shapes i (Net []) in
    let more : take (i + 1) shapes ≡ take i shapes ++ shape ∷ [] = take_more shapes i (Net []) c.loop-shape-test.true in
    record {
      room = omega arith;
      count = omega arith;
      first = rw (more, map-append (first_device c.args.ram_base c.args.ram_len) (take i shapes) (shape ∷ []), c.push_reserved.ensures.items, ← c.loop-shape.invariant.first, c.in_ok-state.ensures) refl;
    }
