use Rattle.std.proofs.Common.{◌≡◌, ◌≤◌, drop, length, take}
use Rattle.machine.specs.PageLog.{AreHandedOut}
use Rattle.machine.proofs.page_log.take_out.Given as goal

abbrev pub invariant-loop-at : goal.invariant-loop-at
invariant-loop-at l = record {
  size : length l.out ≡ length l.fn.out;
  within : l.at ≤ length l.fn.out;
  handed : AreHandedOut l.fn.set (take l.at l.out) l.set;
  rest : drop l.at l.out ≡ drop l.at l.fn.out;
  kept : length l.set ≡ length l.fn.set;
}
