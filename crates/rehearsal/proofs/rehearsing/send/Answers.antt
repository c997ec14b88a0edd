use Rattle.std.proofs.Common.{◌≡◌, ℕ, List, Some, length, ◌<◌, true, false, ap, sym, ◌∙◌, arith}
use Rattle.wire.specs.Sinks.{SinkState, over_writer}
use Rattle.rehearsal.proofs.Sending.{at_place, is_sent, not_played, not_stopped, sending_first, sending_on}
use Rattle.rehearsal.proofs.rehearsing.send.Goals.{then-loop-stopped-test+else-len-events, else-loop-stopped-test}
use Rattle.rehearsal.proofs.rehearsing.send.Goals as goal

pub returns-in-Err-clause-unsent : goal.returns-in-Err-clause-unsent
returns-in-Err-clause-unsent g c = not_played c.args.machine c.in-Err.source c.args.events.now c.new-in-Err.result.items c.new-in-Err.ensures.items c.in-Err.ensures.err.0

pub returns-in_default-clause-unsent : goal.returns-in_default-clause-unsent
returns-in_default-clause-unsent g c = not_played c.args.machine c.abort.result c.args.events.now c.new-in_default.result.items c.new-in_default.ensures.items (c.abort.ensures ∙ c.in-Ok.ensures.machine)

pub loop-stopped-init : goal.loop-stopped-init
loop-stopped-init g c = record {
  room = omega (arith, c.in-Some.ensures.room);
  few = omega (arith, c.in-Some.replies.ok.0, ap length c.in-Some.ensures.none);
  sending = sending_first c.args.machine c.args.events.now c.in-Some.replies.items c.in-Ok.live c.in-Some.ensures.none c.in-Ok.ensures.machine c.in-Ok.ensures.fresh c.in-Ok.ensures.empty c.in-Ok.ensures.digest
      (c.in-Ok.ensures.out ∙ c.new-2.ensures ∙ ap (λ (x : List ℕ). over_writer (Some x) 0 false) c.new.ensures.items) c.in-Ok.ensures.places;
}

pub loop-stopped-preserved : goal.loop-stopped-preserved
loop-stopped-preserved g c =
    let i = c.loop-stopped.invariant in
    let replies = c.loop-stopped.replies.items in
    let below : length replies < length c.args.events.now = omega (arith, c.if-len-events.true, c.len.ensures, c.loop-stopped.replies.ok.0) in
    let is = at_place c.args.events.now _ (length replies) c.index-events-len.result c.index-events-len.is (omega (arith, c.len-in-loop-stopped.ensures, c.loop-stopped.replies.ok.0)) in
    record {
      room = omega (arith, i.room, c.push_reserved.ensures.capacity);
      few = omega (arith, c.push_reserved.ensures.len, below, c.loop-stopped.replies.ok.0);
      sending = rw (c.push_reserved.ensures.items, c.is_stopped-stopped.ensures)
          (sending_on c.args.machine c.args.events.now replies c.index-events-len.result c.serve-reply.result c.loop-stopped.live c.serve-reply.new.self below is c.recall.ensures c.serve-reply.ensures.served (rw c.loop-stopped-test.true at i.sending));
    }

pub returns-then-stopped-clause-sent : goal.returns-then-stopped-clause-sent
returns-then-stopped-clause-sent g c =
    let i = c.loop-stopped.invariant in
    is_sent c.args.machine c.into_parts-source.result.0 c.args.events.now c.loop-stopped.replies.items c.into_inner.result.items c.loop-stopped.live c.shapes-shapes.ensures.sound c.into_parts-source.ensures.machine
    (omega (arith, i.few, c.loop-stopped.replies.ok.0)) (ap (λ (o : SinkState). o.held) (sym c.into_parts-source.ensures.out ∙ c.into_inner.ensures)) (rw c.if-stopped.true at i.sending)

pub returns-clause-unsent : goal.returns-clause-unsent
returns-clause-unsent g c =
    let i = c.loop-stopped.invariant in
    let each : length c.loop-stopped.replies.items ≡ length c.args.events.now = elim c.loop-stopped-test.branch [
      | then-loop-stopped-test+else-len-events w ↦ omega (arith, w.if-len-events.false, w.len.ensures, i.few, c.loop-stopped.replies.ok.0)
      | else-loop-stopped-test w ↦ (let wrong : true ≡ false = sym w.loop-stopped-test.false ∙ c.if-stopped.false in cc)
    ] in
    not_stopped c.args.machine c.into_parts-source.result.0 c.args.events.now c.loop-stopped.replies.items c.loop-stopped.live c.shapes-shapes.ensures.sound c.into_parts-source.ensures.machine each (rw c.if-stopped.false at i.sending)
