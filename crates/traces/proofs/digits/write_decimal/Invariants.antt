use Rattle.std.proofs.Common.{◌≡◌, ◌^◌, ◌++◌, ◌<◌, ◌≤◌, drop, decimal}
use Rattle.traces.proofs.digits.write_decimal.Given as goal

abbrev pub invariant-loop-rest : goal.invariant-loop-rest
invariant-loop-rest l = record {
  written : decimal l.number ≡ decimal l.rest ++ drop l.at l.room;
  some : 1 ≤ l.at;
  within : l.at ≤ 20;
  bounded : l.rest < 10 ^ l.at;
}

abbrev pub decreases-loop-rest : goal.decreases-loop-rest
decreases-loop-rest l = l.rest
