use Rattle.std.proofs.Common.{◌≤◌, length, arith}
use Rattle.blk.specs.Sectors.{sectors_of}
use Rattle.blk.proofs.Marks.{length_sectors, marks_of}
use Rattle.blk.proofs.sectors.Sectors.next_bad.Goals as goal

pub first_from-requires : goal.first_from-requires
first_from-requires g c =
    let h : c.args.from ≤ length (sectors_of (g.D.Disk.state c.self.inside.disk).sectors c.self.inside.bad) = rw (← c.self.view_is) at c.requires in
    omega (arith, h, length_sectors (g.D.Disk.state c.self.inside.disk).sectors c.self.inside.bad, c.self.invariant.0)

pub returns : goal.returns
returns g c = rw (← c.self.view_is, marks_of (g.D.Disk.state c.self.inside.disk).sectors c.self.inside.bad c.self.invariant.0) c.first_from.ensures
