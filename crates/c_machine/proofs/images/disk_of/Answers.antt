use Rattle.std.proofs.Common.{◌∙◌, ap, length}
use Rattle.std.proofs.lemmas.List.{length-set}
use Rattle.c_machine.proofs.Imaging.{sector_more}
use Rattle.c_machine.proofs.images.disk_of.Goals as goal

pub loop-n-preserved : goal.loop-n-preserved
loop-n-preserved c = record {
  count = ap length c.put_sector.ensures ∙ length-set c.loop-n.disk c.loop-n.n _ ∙ c.loop-n.invariant.count;
  bytes = sector_more c.loop-n.disk c.put_sector.new.disk c.args.image.now c.loop-n.n c.args.sectors c.loop-n.invariant.count c.loop-n-test.true c.loop-n.invariant.bytes c.put_sector.ensures;
}
