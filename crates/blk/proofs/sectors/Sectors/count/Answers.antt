use Rattle.std.proofs.Common.{◌∙◌, sym}
use Rattle.blk.proofs.Marks.{length_sectors}
use Rattle.blk.proofs.sectors.Sectors.count.Goals as goal

pub returns : goal.returns
returns g c = rw (← c.self.view_is) (c.len.ensures ∙ c.self.invariant.0 ∙ sym (length_sectors (g.D.Disk.state c.self.inside.disk).sectors c.self.inside.bad))
