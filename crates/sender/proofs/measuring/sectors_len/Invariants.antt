use Rattle.std.proofs.Common.{◌≡◌, ◌≤◌, ◌*◌, length}
use Rattle.machine.specs.Layout.{pages_of}
use Rattle.machine.specs.Seen.{state_of}
use Rattle.machine.specs.Sound.{IsSound}
use Rattle.wire.specs.Stream.{texts}
use Rattle.sender.specs.Items.{records_from, sectors_before}
use Rattle.sender.proofs.measuring.sectors_len.Given as goal

abbrev pub invariant-loop-dev : goal.invariant-loop-dev
invariant-loop-dev g l = record {
  sound : IsSound (state_of l.machine);
  end : l.dev-end ≡ length (state_of l.machine).devices;
  few : l.dev-end ≤ 16;
  low : l.len ≤ 2229088026105 * l.dev;
  sum : l.len ≡ length (texts (records_from (state_of l.machine) (pages_of (state_of l.machine)) (sectors_before (state_of l.machine) l.dev)));
}
