use Rattle.std.proofs.Common.{◌≡◌, false, take}
use Rattle.std.specs.List.{list_any}
use Rattle.disk_calls.specs.Calls.{has_out}
use Rattle.disk_calls.proofs.calls.Calls.is_any_out.Given as goal

abbrev pub invariant-loop-device : goal.invariant-loop-device
invariant-loop-device l = list_any has_out (take l.device-index l.fn.self.devices) ≡ false
