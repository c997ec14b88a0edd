use Rattle.std.proofs.Common.{◌≡◌, ◌++◌, take}
use Rattle.std.specs.Prelude.{IsTrue}
use Rattle.machine.specs.Seen.{state_of}
use Rattle.wire.specs.Sinks.{Takes}
use Rattle.wire.specs.Stream.{device_texts}
use Rattle.sender.proofs.saving.write_devices.Given as goal

abbrev pub invariant-loop-number : goal.invariant-loop-number
invariant-loop-number g l = record {
  count : (g.S.Sink.state l.out).failures ≡ (g.S.Sink.state l.fn.out).failures;
  holds : IsTrue (g.S.Sink.state l.fn.out).honest → IsTrue (g.S.Sink.state l.out).honest × ((g.S.Sink.state l.out).held ≡ (g.S.Sink.state l.fn.out).held ++ device_texts 0 (take l.number (state_of l.machine).devices));
  taken : Takes (g.S.Sink.sum l.fn.out) (device_texts 0 (take l.number (state_of l.machine).devices)) (g.S.Sink.sum l.out);
}
