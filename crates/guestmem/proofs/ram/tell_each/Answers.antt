use Rattle.guestmem.specs.Item.{page as page_item}
use Rattle.guestmem.proofs.Told.{told_more}
use Rattle.guestmem.proofs.ram.tell_each.Goals as goal

pub loop-n-preserved : goal.loop-n-preserved
loop-n-preserved g c = record {
  may = λ n h. rw c.page.ensures (g.met.L.TouchLog.stays c.loop-n.log (page_item n) (page_item c.loop-n.n) (c.loop-n.invariant.may n h));
  so_far = rw c.page.ensures (told_more g.L.TouchLog.after c.args.log.now c.loop-n.log c.args.first c.loop-n.n c.loop-n.auto.n c.loop-n.invariant.so_far);
}
