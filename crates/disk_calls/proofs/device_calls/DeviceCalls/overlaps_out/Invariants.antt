use Rattle.std.proofs.Common.{◌≡◌, false, take}
use Rattle.std.specs.List.{list_any}
use Rattle.disk_calls.specs.Overlap.{overlap}
use Rattle.disk_calls.proofs.device_calls.DeviceCalls.overlaps_out.Given as goal

abbrev pub invariant-loop-out : goal.invariant-loop-out
invariant-loop-out l = list_any (λ out. overlap l.fn.self.size out.call l.fn.call) (take l.out-index l.fn.self.outs) ≡ false
