use Rattle.blk.proofs.Zeros.{zero_sectors}
use Rattle.blk.proofs.file_disk.FileDiskDisk.sectors.Goals as goal

pub returns-clause-whole : goal.returns-clause-whole
returns-clause-whole g c = rw (← c.self.view_is) (zero_sectors c.self.inside.count)
