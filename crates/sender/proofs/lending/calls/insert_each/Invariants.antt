use Rattle.std.proofs.Common.{◌≡◌, drop, length}
use Rattle.sender.specs.Parked.{with_pages}
use Rattle.sender.proofs.lending.calls.insert_each.Given as goal

abbrev pub invariant-loop-n : goal.invariant-loop-n
invariant-loop-n l = record {
  rest : with_pages l.set (drop l.n-index l.pages) ≡ with_pages l.fn.set l.pages;
  size : length l.set ≡ length l.fn.set;
}
