use Rattle.std.proofs.Common.{◌-◌, ◌<◌, ◌≤◌, true}
use Rattle.chains.specs.Decoder.{HasDecoded}
use Rattle.chains.specs.RingCore.{core_state}
use Rattle.packedring.proofs.Finding.{IsReached}
use Rattle.packedring.proofs.walk.walk.Given as goal

abbrev pub invariant-loop-last : goal.invariant-loop-last
invariant-loop-last l = record {
  reached : IsReached l.ram.bytes (core_state true l.core) l.chain l.count l.slot l.last;
  few : l.count ≤ l.core.size;
  inside : l.slot < l.core.size;
  decoded : HasDecoded l.fn.decoder l.decoder l.ram (l.count - 1);
}

abbrev pub decreases-loop-last : goal.decreases-loop-last
decreases-loop-last l = l.core.size - l.count
