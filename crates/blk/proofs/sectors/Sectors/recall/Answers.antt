use Rattle.std.proofs.Common.{arith}
use Rattle.blk.proofs.Marks.{length_sectors, are_whole}
use Rattle.blk.proofs.sectors.Sectors.recall.Goals as goal

pub returns-clause-whole : goal.returns-clause-whole
returns-clause-whole g c = rw (← c.self.view_is) (are_whole (g.D.Disk.state c.self.inside.disk).sectors c.self.inside.bad c.self.invariant.1)

pub returns-clause-few : goal.returns-clause-few
returns-clause-few g c = rw (← c.self.view_is) (omega (arith, c.len-count.ensures, c.self.invariant.0, length_sectors (g.D.Disk.state c.self.inside.disk).sectors c.self.inside.bad))
