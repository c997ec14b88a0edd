use Rattle.std.proofs.Common.{replicate, sym}
use Rattle.std.proofs.lemmas.List.{length-replicate}
use Rattle.blk.proofs.Zeros.{zero_sectors}
use Rattle.vmig.proofs.short_file.ForgetfulDisk.sectors.Goals as goal

pub returns-clause-count : goal.returns-clause-count
returns-clause-count c = rw (← c.self.view_is) (sym (length-replicate c.self.inside.sectors (replicate 512 0)))

pub returns-clause-whole : goal.returns-clause-whole
returns-clause-whole c = rw (← c.self.view_is) (zero_sectors c.self.inside.sectors)
