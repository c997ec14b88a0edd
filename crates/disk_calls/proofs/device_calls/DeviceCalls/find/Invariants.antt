use Rattle.std.proofs.Common.{◌≢◌}
use Rattle.std.specs.List.{AllWithin}
use Rattle.disk_calls.proofs.device_calls.DeviceCalls.find.Given as goal

abbrev pub invariant-loop-i : goal.invariant-loop-i
invariant-loop-i l = AllWithin (λ out. out.number ≢ l.fn.number) l.fn.self.outs 0 l.i
