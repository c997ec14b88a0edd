use Rattle.std.proofs.Common.{◌≡◌, ◌≤◌, ℕ, false, ◌<◌}
use Rattle.machine.specs.NextWork.{can_work_with}
use Rattle.machine.proofs.state.DeviceState.first_pick.Given as goal

abbrev pub invariant-loop-pick : goal.invariant-loop-pick
invariant-loop-pick l = (k : ℕ) → l.fn.from ≤ k → k < l.pick → can_work_with l.fn.is_lost l.fn.self k ≡ false
