use Rattle.std.proofs.Common.{sym, ◌∙◌}
use Rattle.blk.proofs.Marks.{bad_counted}
use Rattle.blk.proofs.sectors.Sectors.bad_count.Goals as goal

pub returns : goal.returns
returns g c = rw (← c.self.view_is) (c.count.ensures ∙ sym (bad_counted (g.D.Disk.state c.self.inside.disk).sectors c.self.inside.bad c.self.invariant.0))
