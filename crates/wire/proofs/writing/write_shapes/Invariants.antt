use Rattle.std.proofs.Common.{◌≡◌, ◌++◌, take}
use Rattle.std.specs.Prelude.{IsTrue}
use Rattle.wire.specs.Header.{spelled_shapes}
use Rattle.wire.specs.Sinks.{Takes}
use Rattle.wire.proofs.writing.write_shapes.Given as goal

abbrev pub invariant-loop-i : goal.invariant-loop-i
invariant-loop-i g l = record {
  count : (g.S.Sink.state l.out).failures ≡ (g.S.Sink.state l.fn.out).failures;
  holds : IsTrue (g.S.Sink.state l.fn.out).honest → IsTrue (g.S.Sink.state l.out).honest × ((g.S.Sink.state l.out).held ≡ (g.S.Sink.state l.fn.out).held ++ spelled_shapes (take l.i l.shapes));
  takes : Takes (g.S.Sink.sum l.fn.out) (spelled_shapes (take l.i l.shapes)) (g.S.Sink.sum l.out);
}
