use Rattle.std.proofs.Common.{◌≡◌, ◌++◌, take}
use Rattle.std.specs.List.{flat_map}
use Rattle.std.specs.Prelude.{IsTrue}
use Rattle.wire.specs.FrameText.{frame_text}
use Rattle.wire.specs.Sinks.{Takes}
use Rattle.wire.proofs.frame_writing.write_each.Given as goal

abbrev pub invariant-loop-i : goal.invariant-loop-i
invariant-loop-i g l = record {
  count : (g.S.Sink.state l.out).failures ≡ (g.S.Sink.state l.fn.out).failures;
  holds : IsTrue (g.S.Sink.state l.fn.out).honest → IsTrue (g.S.Sink.state l.out).honest × ((g.S.Sink.state l.out).held ≡ (g.S.Sink.state l.fn.out).held ++ flat_map frame_text (take l.i l.inbox.frames));
  takes : Takes (g.S.Sink.sum l.fn.out) (flat_map frame_text (take l.i l.inbox.frames)) (g.S.Sink.sum l.out);
}
