use Rattle.std.proofs.Common.{◌≡◌, ◌*◌, drop, length}
use Rattle.guestmem.specs.Item.{after_all, MayPages}
use Rattle.guestmem.specs.Lent.{raise_each, page_items}
use Rattle.guestmem.specs.declared.limits.TheConstants.{PAGE_SIZE}
use Rattle.guestmem.proofs.parked.raise_each.Given as goal

abbrev pub invariant-loop-n : goal.invariant-loop-n
invariant-loop-n g l = record {
  versions : raise_each l.versions (drop l.n-index l.pages) ≡ raise_each l.fn.versions l.pages;
  size : length l.versions ≡ length l.fn.versions;
  log : after_all g.L.TouchLog.after l.log (page_items (drop l.n-index l.pages)) ≡ after_all g.L.TouchLog.after l.fn.log (page_items l.pages);
  may : MayPages g.L.TouchLog.may l.log (PAGE_SIZE * length l.fn.versions);
}
