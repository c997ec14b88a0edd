use Rattle.std.proofs.Common.{◌+◌, ◌≤◌, length}
use Rattle.traces.specs.Lines.{lines_of}
use Rattle.traces.proofs.EventsAlone.{AreRead}
use Rattle.traces.proofs.events.parse_events.Given as goal

abbrev pub invariant-loop-rest : goal.invariant-loop-rest
invariant-loop-rest l = record {
  at : AreRead (lines_of l.text) l.number l.events.items (lines_of l.rest);
  count : l.number + length l.rest ≤ length l.text;
}

abbrev pub decreases-loop-rest : goal.decreases-loop-rest
decreases-loop-rest l = length l.rest
