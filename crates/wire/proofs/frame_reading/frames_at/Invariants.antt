use Rattle.std.proofs.Common.{◌≡◌, ◌-◌, length}
use Rattle.wire.specs.FrameReading.{frame_of}
use Rattle.wire.specs.Several.{in_front, several}
use Rattle.wire.proofs.frame_reading.frames_at.Given as goal

abbrev pub invariant-loop : goal.invariant-loop
invariant-loop l = record {
  longest : l.inbox.longest ≡ l.longest;
  many : length l.inbox.frames ≡ l.counter;
  whole : in_front l.inbox.frames (several (frame_of l.longest) (l.count - l.counter) l.rest) ≡ several (frame_of l.longest) l.count l.bytes;
}
