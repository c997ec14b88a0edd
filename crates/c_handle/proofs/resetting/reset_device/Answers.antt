use Rattle.std.proofs.Common.{◌≡◌, ◌∙◌, ap, sym, Some}
use Rattle.std.specs.Prelude.{slice_get}
use Rattle.c_handle.specs.Resetting.{shapes_in}
use Rattle.c_handle.proofs.Resets.{dropped_in, one_with, one_without, wrote_in}
use Rattle.c_handle.proofs.resetting.reset_device.Goals as goal

pub returns-then-has_input-clause-done : goal.returns-then-has_input-clause-done
returns-then-has_input-clause-done c shape there =
    let k = c.args.kept.now.state in
    let mid = c.written-wrote.new.kept.state in
    let told = c.shape_of-shape.result in
    let one = wrote_in k mid c.args.dev _ _ told c.requires.going c.requires.pages c.shape_of-shape.ensures c.written-wrote.ensures.told in
    let later : slice_get (shapes_in mid) c.args.dev ≡ Some told = ap (λ l. slice_get l c.args.dev) one.shapes ∙ c.shape_of-shape.ensures in
    let some = sym c.has_input.ensures ∙ c.if-has_input.true in
    let two = dropped_in mid c.drop_input-dropped.new.kept.state c.args.dev _ told one.going one.pages later some c.drop_input-dropped.ensures.told in
    one_with k mid c.drop_input-dropped.new.kept.state c.args.dev _ _ _ told shape c.shape_of-shape.ensures some c.written-wrote.ensures.told one.status_is c.drop_input-dropped.ensures.told two.status_is there

pub returns-else-has_input-clause-done : goal.returns-else-has_input-clause-done
returns-else-has_input-clause-done c shape there =
    let k = c.args.kept.now.state in
    let told = c.shape_of-shape.result in
    let one = wrote_in k c.written-wrote.new.kept.state c.args.dev _ _ told c.requires.going c.requires.pages c.shape_of-shape.ensures c.written-wrote.ensures.told in
    one_without k c.written-wrote.new.kept.state c.args.dev _ _ told shape c.shape_of-shape.ensures (sym c.has_input.ensures ∙ c.if-has_input.false) c.written-wrote.ensures.told one.status_is there

pub returns-then-has_input-clause-shapes : goal.returns-then-has_input-clause-shapes
returns-then-has_input-clause-shapes c =
    let k = c.args.kept.now.state in
    let mid = c.written-wrote.new.kept.state in
    let told = c.shape_of-shape.result in
    let one = wrote_in k mid c.args.dev _ _ told c.requires.going c.requires.pages c.shape_of-shape.ensures c.written-wrote.ensures.told in
    let later : slice_get (shapes_in mid) c.args.dev ≡ Some told = ap (λ l. slice_get l c.args.dev) one.shapes ∙ c.shape_of-shape.ensures in
    let two = dropped_in mid c.drop_input-dropped.new.kept.state c.args.dev _ told one.going one.pages later (sym c.has_input.ensures ∙ c.if-has_input.true) c.drop_input-dropped.ensures.told in
    two.shapes ∙ one.shapes

pub returns-else-has_input-clause-shapes : goal.returns-else-has_input-clause-shapes
returns-else-has_input-clause-shapes c =
    let one = wrote_in c.args.kept.now.state c.written-wrote.new.kept.state c.args.dev _ _ c.shape_of-shape.result c.requires.going c.requires.pages c.shape_of-shape.ensures c.written-wrote.ensures.told in
    one.shapes

pub returns-then-has_input-clause-going : goal.returns-then-has_input-clause-going
returns-then-has_input-clause-going c =
    let k = c.args.kept.now.state in
    let mid = c.written-wrote.new.kept.state in
    let told = c.shape_of-shape.result in
    let one = wrote_in k mid c.args.dev _ _ told c.requires.going c.requires.pages c.shape_of-shape.ensures c.written-wrote.ensures.told in
    let later : slice_get (shapes_in mid) c.args.dev ≡ Some told = ap (λ l. slice_get l c.args.dev) one.shapes ∙ c.shape_of-shape.ensures in
    let two = dropped_in mid c.drop_input-dropped.new.kept.state c.args.dev _ told one.going one.pages later (sym c.has_input.ensures ∙ c.if-has_input.true) c.drop_input-dropped.ensures.told in
    two.going

pub returns-else-has_input-clause-going : goal.returns-else-has_input-clause-going
returns-else-has_input-clause-going c =
    let one = wrote_in c.args.kept.now.state c.written-wrote.new.kept.state c.args.dev _ _ c.shape_of-shape.result c.requires.going c.requires.pages c.shape_of-shape.ensures c.written-wrote.ensures.told in
    one.going

pub returns-then-has_input-clause-pages : goal.returns-then-has_input-clause-pages
returns-then-has_input-clause-pages c =
    let k = c.args.kept.now.state in
    let mid = c.written-wrote.new.kept.state in
    let told = c.shape_of-shape.result in
    let one = wrote_in k mid c.args.dev _ _ told c.requires.going c.requires.pages c.shape_of-shape.ensures c.written-wrote.ensures.told in
    let later : slice_get (shapes_in mid) c.args.dev ≡ Some told = ap (λ l. slice_get l c.args.dev) one.shapes ∙ c.shape_of-shape.ensures in
    let two = dropped_in mid c.drop_input-dropped.new.kept.state c.args.dev _ told one.going one.pages later (sym c.has_input.ensures ∙ c.if-has_input.true) c.drop_input-dropped.ensures.told in
    two.pages

pub returns-else-has_input-clause-pages : goal.returns-else-has_input-clause-pages
returns-else-has_input-clause-pages c =
    let one = wrote_in c.args.kept.now.state c.written-wrote.new.kept.state c.args.dev _ _ c.shape_of-shape.result c.requires.going c.requires.pages c.shape_of-shape.ensures c.written-wrote.ensures.told in
    one.pages
