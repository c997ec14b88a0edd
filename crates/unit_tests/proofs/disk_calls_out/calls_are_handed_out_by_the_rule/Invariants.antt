use Rattle.std.proofs.Common.{◌≡◌, length}
use Rattle.unit_tests.proofs.disk_calls_out.calls_are_handed_out_by_the_rule.Given as goal

abbrev pub invariant-loop-turn : goal.invariant-loop-turn
invariant-loop-turn g l = length l.calls.devices ≡ 2
