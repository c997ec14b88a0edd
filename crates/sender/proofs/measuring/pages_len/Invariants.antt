use Rattle.std.proofs.Common.{◌≡◌, ◌≤◌, ◌*◌, length}
use Rattle.machine.specs.Seen.{state_of}
use Rattle.machine.specs.Sound.{IsSound}
use Rattle.wire.specs.Stream.{records_below, texts}
use Rattle.sender.proofs.measuring.pages_len.Given as goal

abbrev pub invariant-loop-number : goal.invariant-loop-number
invariant-loop-number g l = record {
  sound : IsSound (state_of l.machine);
  low : l.len ≤ 4101 * l.number;
  sum : l.len ≡ length (texts (records_below (state_of l.machine) l.number));
}
