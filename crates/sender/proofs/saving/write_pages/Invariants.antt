use Rattle.std.proofs.Common.{◌≡◌, ◌++◌}
use Rattle.std.specs.Prelude.{IsTrue}
use Rattle.machine.specs.Seen.{state_of}
use Rattle.wire.specs.Sinks.{Takes}
use Rattle.wire.specs.Stream.{records_below, texts}
use Rattle.sender.proofs.saving.write_pages.Given as goal

abbrev pub invariant-loop-number : goal.invariant-loop-number
invariant-loop-number g l = record {
  count : (g.S.Sink.state l.out).failures ≡ (g.S.Sink.state l.fn.out).failures;
  holds : IsTrue (g.S.Sink.state l.fn.out).honest → IsTrue (g.S.Sink.state l.out).honest × ((g.S.Sink.state l.out).held ≡ (g.S.Sink.state l.fn.out).held ++ texts (records_below (state_of l.machine) l.number));
  taken : Takes (g.S.Sink.sum l.fn.out) (texts (records_below (state_of l.machine) l.number)) (g.S.Sink.sum l.out);
}
