use Rattle.std.proofs.Common.{refl}
use Rattle.guestmem.proofs.LaterLaws.{later_trans}
use Rattle.guestmem.proofs.RisesLaws.{rises_append}
use Rattle.chains.specs.Publish.{split_published}
use Rattle.splitring.proofs.ring.SplitRingRing.publish.Goals as goal

pub returns-clause-bytes : goal.returns-clause-bytes
unfolding split_published
returns-clause-bytes g c = rw (← c.self.view_is) (simp (c.put_in_page.ensures.bytes, c.put.ensures.bytes, c.element_bytes.ensures, c.index_bytes.ensures, c.slot_of-slot.ensures) refl)

pub returns-clause-log : goal.returns-clause-log
unfolding split_published
returns-clause-log g c = rw (← c.self.view_is) (simp (c.put_in_page.ensures.log, c.put.ensures.log, c.element_bytes.ensures, c.index_bytes.ensures, c.slot_of-slot.ensures) refl)

pub returns-clause-after : goal.returns-clause-after
returns-clause-after g c = record { later = later_trans _ _ _ c.put.ensures.later c.put_in_page.ensures.later; pages = c.put_in_page.ensures.may }

pub returns-clause-rises : goal.returns-clause-rises
unfolding split_published
returns-clause-rises g c = rw (← c.self.view_is) (rises_append _ _ _ _ _ (rw (c.element_bytes.ensures, c.slot_of-slot.ensures) at c.put.ensures.rises) (rw c.index_bytes.ensures at c.put_in_page.ensures.rises))
