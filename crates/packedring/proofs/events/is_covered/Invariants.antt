use Rattle.std.proofs.Common.{◌≡◌, ◌<◌, ◌-◌}
use Rattle.chains.specs.Publish.{positions_from, is_among}
use Rattle.packedring.proofs.events.is_covered.Given as goal

abbrev pub invariant-loop-step : goal.invariant-loop-step
invariant-loop-step l = record {
  inside : l.position.place < l.size;
  rest : is_among l.offset l.wrap (positions_from l.size l.position (l.slots - l._step)) ≡ is_among l.offset l.wrap (positions_from l.size l.fn.from l.slots);
}
