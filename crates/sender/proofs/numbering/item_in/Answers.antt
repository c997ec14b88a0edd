use Rattle.std.proofs.Common.{◌≡◌, ◌<◌, ◌≤◌, length, ap, sym, subst, ◌∙◌, arith}
use Rattle.machine.specs.Layout.{Layout, item_at, size_of}
use Rattle.sender.specs.Items.{size_on}
use Rattle.sender.proofs.Disks.{few_told, size_told}
use Rattle.sender.proofs.Numbers.{item_found, layout_by_shapes, none_left, seeks_next, shapes_long}
use Rattle.sender.proofs.numbering.item_in.Goals as goal

pub overflow_cast-result-then-number-first-2 : goal.overflow_cast-result-then-number-first-2
overflow_cast-result-then-number-first-2 c =
    let m = c.requires.some.0 in
    let are = c.requires.some.1 in
    let long = shapes_long m c.args.shapes.now are.shapes_are in
    let few : c.sectors-size.result ≤ 4294967295 = rw c.sectors-size.ensures (few_told m c.args.shapes.now c.loop-dev.dev _ are.sound are.shapes_are (omega (arith, long, c.loop-dev-test.true))) in
    omega (arith, few, c.if-number-first.true)

pub returns-then-number-first : goal.returns-then-number-first
returns-then-number-first c =
    let m = c.requires.some.0 in
    let are = c.requires.some.1 in
    let long = shapes_long m c.args.shapes.now are.shapes_are in
    let below : c.loop-dev.dev < length m.devices = omega (arith, long, c.loop-dev-test.true) in
    let size : c.sectors-size.result ≡ size_on m c.loop-dev.dev = c.sectors-size.ensures ∙ size_told m c.args.shapes.now c.loop-dev.dev _ are.sound are.shapes_are below in
    item_found m c.args.number c.loop-dev.dev c.loop-dev.first c.sectors-size.result (c.loop-dev.invariant.seeks m are) below size c.if-number-first.true ∙ ap (λ (l : Layout). item_at l c.args.number) (layout_by_shapes c.args.pages c.args.shapes.now m are)

pub loop-dev-preserved : goal.loop-dev-preserved
loop-dev-preserved c = record {
  end = c.loop-dev.invariant.end;
  few = c.loop-dev.invariant.few;
  seeks = λ m are.
      let long = shapes_long m c.args.shapes.now are.shapes_are in
      let below : c.loop-dev.dev < length m.devices = omega (arith, long, c.loop-dev-test.true) in
      let size : c.sectors-size.result ≡ size_on m c.loop-dev.dev = c.sectors-size.ensures ∙ size_told m c.args.shapes.now c.loop-dev.dev _ are.sound are.shapes_are below in
      let few : c.sectors-size.result ≤ 4294967295 = rw c.sectors-size.ensures (few_told m c.args.shapes.now c.loop-dev.dev _ are.sound are.shapes_are below) in
      seeks_next m c.args.number c.loop-dev.dev c.loop-dev.first c.sectors-size.result (c.loop-dev.invariant.seeks m are) below size few c.if-number-first.false;
}

pub returns : goal.returns
returns c =
    let m = c.requires.some.0 in
    let are = c.requires.some.1 in
    let long = shapes_long m c.args.shapes.now are.shapes_are in
    let P : Layout → Type 0 = λ l. c.args.number < size_of l in
    absurd (none_left m c.args.number c.loop-dev.dev c.loop-dev.first (c.loop-dev.invariant.seeks m are) (omega (arith, long, c.loop-dev-test.false, c.loop-dev.auto.dev-end)) (subst P (sym (layout_by_shapes c.args.pages c.args.shapes.now m are)) c.requires.below))
