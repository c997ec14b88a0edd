use Rattle.std.proofs.Common.{◌≡◌, ◌-◌, length}
use Rattle.wire.specs.RequestReading.{request_of}
use Rattle.wire.specs.Several.{in_front, several}
use Rattle.wire.proofs.request_text.requests_at.Given as goal

abbrev pub invariant-loop : goal.invariant-loop
invariant-loop l = record {
  many : length l.requests ≡ l.counter;
  whole : in_front l.requests (several request_of (l.count - l.counter) l.rest) ≡ several request_of l.count l.bytes;
}
