use Rattle.std.proofs.Common.{rules, arith, ap, length, ◌≡◌}
use Rattle.machine.specs.Shapes.{sector_count}
use Rattle.receiver.specs.Spots.{disks_before}
use Rattle.receiver.proofs.Spots.{count_at, dev_below, has_sector, there}
use Rattle.receiver.proofs.Writing.{in_range}
use Rattle.receiver.proofs.intake.find_sector.Goals as goal

pub index-first-requires : goal.index-first-requires
index-first-requires c =
    let has = has_sector c.args.intake.now.shapes.items c.args.dev c.args.number c.index.result.now (omega arith) c.index.ensures (omega arith) in
    omega (arith, (there c.args.intake.now c.args.dev c.args.number c.requires has).firsts, c.args.intake.now.firsts.ok.0)

pub overflow_add-item : goal.overflow_add-item
overflow_add-item c =
    let i = c.args.intake.now in
    let has = has_sector i.shapes.items c.args.dev c.args.number c.index.result.now (omega arith) c.index.ensures (omega arith) in
    let t = there i c.args.dev c.args.number c.requires has in
    let first = in_range i.firsts.items c.args.dev c.index-first.result.now 0 t.firsts c.index-first.ensures in
    let many : c.len-count.result ≡ length i.named = search rules in
    omega (arith, t.item, first, many)

pub returns-then-place-len-clause-found : goal.returns-then-place-len-clause-found
returns-then-place-len-clause-found c = λ has. omega (arith, dev_below c.args.intake.now.shapes.items c.args.dev c.args.number has)

pub returns-then-number-sectors-clause-found : goal.returns-then-number-sectors-clause-found
returns-then-number-sectors-clause-found c = λ has.
    let there = count_at c.args.intake.now.shapes.items c.args.dev c.args.number c.index.result.now has in
    omega (arith, there, ap sector_count c.index.ensures)

pub returns-clause-marked : goal.returns-clause-marked
returns-clause-marked c =
    let i = c.args.intake.now in
    let has = has_sector i.shapes.items c.args.dev c.args.number c.index.result.now (omega arith) c.index.ensures (omega arith) in
    let t = there i c.args.dev c.args.number c.requires has in
    let disk : c.disks_before-disk.result ≡ disks_before i.shapes.items c.args.dev = search rules in
    let first = in_range i.firsts.items c.args.dev c.index-first.result.now 0 t.firsts c.index-first.ensures in
    record { disk = rw disk t.disk; sector = rw disk t.mark; item = omega (arith, t.item, first) }

pub returns-clause-found : goal.returns-clause-found
returns-clause-found c =
    let i = c.args.intake.now in
    let has = has_sector i.shapes.items c.args.dev c.args.number c.index.result.now (omega arith) c.index.ensures (omega arith) in
    let t = there i c.args.dev c.args.number c.requires has in
    let first = in_range i.firsts.items c.args.dev c.index-first.result.now 0 t.firsts c.index-first.ensures in
    record { there = has; disk = search rules; item = omega (arith, first) }
