use Rattle.std.proofs.Common.{◌≡◌, ◌<◌, false, get_or, length, arith, ◌∙◌, sym}
use Rattle.blk.specs.Sectors.{sectors_of}
use Rattle.blk.proofs.Marks.{bad_marked, length_sectors, sector_marked}
use Rattle.blk.proofs.sectors.Sectors.read_good.Goals as goal

pub read-requires : goal.read-requires
read-requires g c =
    let h : c.args.n < length (sectors_of (g.D.Disk.state c.self.inside.disk).sectors c.self.inside.bad) = rw (← c.self.view_is) at c.requires.inside in
    omega (arith, h, length_sectors (g.D.Disk.state c.self.inside.disk).sectors c.self.inside.bad)

pub returns-clause-fetched : goal.returns-clause-fetched
returns-clause-fetched g c =
    let ss = (g.D.Disk.state c.self.inside.disk).sectors in
    let bad = c.self.inside.bad in
    let h : c.args.n < length (sectors_of ss bad) = rw (← c.self.view_is) at c.requires.inside in
    let below : c.args.n < length ss = omega (arith, h, length_sectors ss bad) in
    let marked = bad_marked ss bad c.args.n c.self.invariant.0 below in
    let good : get_or bad c.args.n false ≡ false = sym marked ∙ (rw (← c.self.view_is) at c.requires.good) in
    rw (← c.self.view_is, sector_marked ss bad c.args.n c.self.invariant.0 below, good) c.read.ensures.read.found
