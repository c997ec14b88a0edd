use Rattle.std.proofs.Common.{◌≡◌, ◌+◌, ◌≤◌, length, take}
use Rattle.traces.specs.Lines.{lines_of}
use Rattle.traces.specs.Reading.{said_of}
use Rattle.traces.specs.Trace.{begin_line_of}
use Rattle.traces.proofs.Progress.{IsAt}
use Rattle.traces.proofs.reading.parse.Given as goal

abbrev pub invariant-loop-rest : goal.invariant-loop-rest
invariant-loop-rest l = record {
  at : IsAt (lines_of l.text) l.number (said_of l.trace) (lines_of l.rest);
  begins : l.begin_line ≡ begin_line_of (take l.number (lines_of l.text));
  count : l.number + length l.rest ≤ length l.text;
}

abbrev pub decreases-loop-rest : goal.decreases-loop-rest
decreases-loop-rest l = length l.rest
