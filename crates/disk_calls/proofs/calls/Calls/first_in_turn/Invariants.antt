use Rattle.std.proofs.Common.{◌≡◌, ◌<◌, ℕ, None, length}
use Rattle.disk_calls.specs.Calls.{call_of_device, in_turn}
use Rattle.disk_calls.proofs.calls.Calls.first_in_turn.Given as goal

abbrev pub invariant-loop-steps : goal.invariant-loop-steps
invariant-loop-steps g l = (i j : ℕ) → i < l.steps → call_of_device l.fn.most l.fn.self (g.T.Asks.asked l.fn.machine) (in_turn l.fn.self.turn (length l.fn.self.devices) i) j ≡ None
