use Rattle.std.proofs.Common.{◌≡◌, ◌++◌, take}
use Rattle.std.specs.Prelude.{IsTrue}
use Rattle.wire.specs.RequestText.{segs_text}
use Rattle.wire.specs.Sinks.{Takes}
use Rattle.wire.proofs.request_writing.write_segs.Given as goal

abbrev pub invariant-loop-i : goal.invariant-loop-i
invariant-loop-i g l = record {
  count : (g.S.Sink.state l.out).failures ≡ (g.S.Sink.state l.fn.out).failures;
  holds : IsTrue (g.S.Sink.state l.fn.out).honest → IsTrue (g.S.Sink.state l.out).honest × ((g.S.Sink.state l.out).held ≡ (g.S.Sink.state l.fn.out).held ++ segs_text (take l.i l.segs));
  takes : Takes (g.S.Sink.sum l.fn.out) (segs_text (take l.i l.segs)) (g.S.Sink.sum l.out);
}
