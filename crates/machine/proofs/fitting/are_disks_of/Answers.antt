use Rattle.std.proofs.Common.{◌≡◌, false, length, map, arith, sym, ◌∙◌}
use Rattle.std.proofs.lemmas.Grind.{common_steps}
use Rattle.machine.specs.First.{are_same}
use Rattle.machine.specs.Shapes.{disk_sizes}
use Rattle.machine.proofs.Disks.{fit_where_same, none_left}
use Rattle.machine.proofs.fitting.are_disks_of.Goals as goal

pub returns : goal.returns
returns g c =
    let i = c.loop-shape in
    let told = c.is_empty.ensures ∙ sym (none_left (λ d. length (g.D.Disk.state d).sectors) c.args.shapes.now i.shape-index i.rest.now c.loop-shape-test.false) ∙ i.invariant in
    record { same = told; fit = fit_where_same g.D.Disk.state c.args.shapes.now c.args.disks.now c.is_empty.result told }

pub returns-in_default-split_first-clause-fit : goal.returns-in_default-split_first-clause-fit
returns-in_default-split_first-clause-fit g c =
    let other : false ≡ are_same (disk_sizes c.args.shapes.now) (map (λ d. length (g.D.Disk.state d).sectors) c.args.disks.now) = grind (arith, common_steps) in
    fit_where_same g.D.Disk.state c.args.shapes.now c.args.disks.now false other

pub returns-then-sectors-size-clause-fit : goal.returns-then-sectors-size-clause-fit
returns-then-sectors-size-clause-fit g c =
    let other : false ≡ are_same (disk_sizes c.args.shapes.now) (map (λ d. length (g.D.Disk.state d).sectors) c.args.disks.now) = grind (arith, common_steps) in
    fit_where_same g.D.Disk.state c.args.shapes.now c.args.disks.now false other
