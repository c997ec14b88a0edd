use Rattle.std.proofs.Common.{◌≡◌, ◌++◌, ◌-◌, ◌*◌, ◌≤◌, length}
use Rattle.wire.specs.RequestReading.{segs_of}
use Rattle.wire.proofs.request_text.segs_at.Given as goal

abbrev pub invariant-loop : goal.invariant-loop
invariant-loop l = record {
  count : length l.segs ≡ l.counter;
  room : 12 * (l.count - l.counter) ≤ length l.rest;
  whole : l.segs ++ segs_of (l.count - l.counter) l.rest ≡ segs_of l.count l.bytes;
}
