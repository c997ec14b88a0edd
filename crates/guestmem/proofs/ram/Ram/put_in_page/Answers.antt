use Rattle.std.proofs.Common.{length}
use Rattle.guestmem.proofs.Logs.{may_after_all}
use Rattle.guestmem.proofs.Later.{later_written}
use Rattle.guestmem.proofs.Rising.{rises_written}
use Rattle.guestmem.proofs.Told.{told_of, length-written}
use Rattle.guestmem.specs.Item.{pages_between}
use Rattle.guestmem.proofs.ram.Ram.put_in_page.Goals as goal

pub returns-clause-log : goal.returns-clause-log
returns-clause-log g c = rw c.tell_pages.ensures
    (told_of g.L.TouchLog.after g.met.L.TouchLog.any_order g.met.L.TouchLog.once c.args.log.now c.args.index c.args.bytes.now c.store_in_page-page.result c.store_in_page-page.result c.store_in_page-page.ensures.touched)

pub returns-clause-may : goal.returns-clause-may
returns-clause-may g c = rw (c.tell_pages.ensures, c.store_in_page-page.ensures.written, length-written c.args.self.now c.args.index c.args.bytes.now c.requires.inside)
    (may_after_all g.L.TouchLog.may g.L.TouchLog.after g.met.L.TouchLog.stays c.args.log.now (length c.args.self.now.bytes) (pages_between c.store_in_page-page.result c.store_in_page-page.result) c.requires.may)

pub returns-clause-later : goal.returns-clause-later
returns-clause-later g c = rw c.store_in_page-page.ensures.written (later_written c.args.self.now c.args.index c.args.bytes.now c.recall.ensures.sound.pages c.requires.inside)

pub returns-clause-rises : goal.returns-clause-rises
returns-clause-rises g c = rw c.store_in_page-page.ensures.written (rises_written c.args.self.now c.args.index c.args.bytes.now c.recall.ensures.sound.pages c.requires.inside)
