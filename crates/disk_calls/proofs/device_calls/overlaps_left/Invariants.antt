use Rattle.std.proofs.Common.{◌≡◌, false, take}
use Rattle.std.specs.List.{list_any}
use Rattle.blk.specs.Outside.{disk_call}
use Rattle.disk_calls.specs.Handing.{left_overlaps}
use Rattle.disk_calls.proofs.device_calls.overlaps_left.Given as goal

abbrev pub invariant-loop-request : goal.invariant-loop-request
invariant-loop-request l = list_any (λ r. left_overlaps l.fn.size l.fn.call (disk_call r)) (take l.request-index l.fn.requests) ≡ false
