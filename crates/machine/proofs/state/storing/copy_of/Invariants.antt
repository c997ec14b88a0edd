use Rattle.std.proofs.Common.{◌≡◌, take}
use Rattle.machine.proofs.state.storing.copy_of.Given as goal

abbrev pub invariant-loop-seg : goal.invariant-loop-seg
invariant-loop-seg l = l.writable ≡ take l.seg-index l.fn.request.writable
