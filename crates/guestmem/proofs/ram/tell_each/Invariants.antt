use Rattle.std.proofs.Common.{◌≡◌, ◌-◌, ◌≤◌, ℕ}
use Rattle.guestmem.specs.Item.{page, after_all, pages_from}
use Rattle.guestmem.proofs.ram.tell_each.Given as goal

abbrev pub invariant-loop-n : goal.invariant-loop-n
invariant-loop-n g l = record {
  may : (n : ℕ) → n ≤ l.last → g.L.TouchLog.may l.log (page n);
  so_far : l.log ≡ after_all g.L.TouchLog.after l.fn.log (pages_from l.first (l.n - l.first));
}
