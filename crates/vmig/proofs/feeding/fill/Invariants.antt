use Rattle.std.proofs.Common.{◌≡◌, ◌≤◌, length}
use Rattle.vmig.proofs.feeding.fill.Given as goal

abbrev pub invariant-loop : goal.invariant-loop
invariant-loop g l = record {
  long : length l.piece ≡ length l.fn.piece;
  within : l.count ≤ length l.piece;
}
