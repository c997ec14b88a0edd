use Rattle.std.proofs.Common.{◌<◌, ◌∙◌, ap, length, take, [], arith, sym, subst}
use Rattle.std.proofs.Common.{◌≡◌, ℕ, ◌+◌, ◌++◌, ◌∷◌, refl}
use Rattle.std.proofs.lemmas.List.{length-append, length-take, take_more}
use Rattle.machine.specs.Seen.{AreHonest, Seen, all_marks, marks_at, state_of}
use Rattle.sender.proofs.Chained.{chain_first, chain_more, was_served}
use Rattle.sender.proofs.AsTold.{none_stopped, written_first, written_on, written_stream}
use Rattle.sender.proofs.Steady.{AreAlike, alike_first, keeps_on, no_replies}
use Rattle.sender.proofs.Replaying.{ran, ran_none, so_far_first, so_far_more, take_all}
use Rattle.sender.proofs.playing.replay.Goals as goal

pub returns-in-Err-clause-ran : goal.returns-in-Err-clause-ran
returns-in-Err-clause-ran g c = λ honest. ran_none _ _ _ _ _ _ c.new-in-Err.ensures.items (ap state_of c.in-Err.ensures.err.0) (ap g.W.Sink.state c.in-Err.ensures.err.1)

pub returns-in_default-clause-ran : goal.returns-in_default-clause-ran
returns-in_default-clause-ran g c = λ honest. ran_none _ _ _ _ _ _ c.new-in_default.ensures.items (ap state_of (c.into_parts-machine.ensures.machine ∙ c.in-Ok.ensures.machine)) (c.into_parts-machine.ensures.out ∙ c.in-Ok.ensures.out)

pub loop-event-init : goal.loop-event-init
loop-event-init g c = record {
  room = c.in-Ok-with_capacity.ensures.capacity;
  count = c.in-Ok-with_capacity.ensures.len;
  unplayed = λ _. c.in-Ok.ensures.machine;
  unwritten = λ _. c.in-Ok.ensures.out;
  written = written_first c.in-Ok.live (g.W.Sink.state c.args.out) c.in-Ok-with_capacity.replies.items c.in-Ok-with_capacity.ensures.items c.in-Ok.ensures.fresh c.in-Ok.ensures.digest c.in-Ok.ensures.out;
  chain = chain_first c.in-Ok.live c.args.machine (g.W.Sink.state c.args.out) [] c.in-Ok-with_capacity.replies.items c.in-Ok-with_capacity.ensures.items c.in-Ok.ensures.machine c.in-Ok.ensures.fresh c.in-Ok.ensures.empty c.in-Ok.ensures.digest c.in-Ok.ensures.out c.in-Ok.ensures.places;
  alike = rw c.in-Ok.ensures.machine (alike_first (all_marks c.args.machine));
  unsteady = tt;
  so_far = λ honest. so_far_first c.in-Ok.live c.args.machine _ [] c.in-Ok-with_capacity.replies.items c.in-Ok-with_capacity.ensures.items c.in-Ok.ensures.machine c.in-Ok.ensures.fresh c.in-Ok.ensures.digest c.in-Ok.ensures.out honest;
}

pub loop-event-preserved : goal.loop-event-preserved
loop-event-preserved g c =
    let events = c.args.events.now in
    let i = c.loop-event.event-index in
    let below : i < length events = c.loop-event-test.true in
    let more : take (i + 1) events ≡ take i events ++ c.event-item.result ∷ [] = rw (take_more events i c.event-item.result below, ← c.event-item.is) refl in
    let even : length c.loop-event.replies.items ≡ length (take i events) = omega (arith, c.loop-event.invariant.count, length-take i events, below) in
    let played : ¬ (c.push_reserved.new.self.items ≡ []) = λ none. omega (arith, ap length none, ap length c.push_reserved.ensures.items, length-append c.loop-event.replies.items (c.serve-reply.result ∷ [])) in
    let kept = keeps_on (all_marks c.args.machine) c.loop-event.live c.serve-reply.new.self (take i events) c.loop-event.replies.items c.event-item.result c.serve-reply.result even c.loop-event.invariant.alike c.loop-event.invariant.unsteady c.serve-reply.ensures.served in
    record {
      room = omega arith;
      count = omega arith;
      unplayed = λ none. absurd (played none);
      unwritten = λ none. absurd (played none);
      written = rw c.push_reserved.ensures.items (written_on (g.W.Sink.state c.args.out) c.loop-event.replies.items c.event-item.result c.serve-reply.result c.loop-event.live c.serve-reply.new.self c.recall.ensures c.serve-reply.ensures.served c.loop-event.invariant.written);
      chain = rw (more, c.push_reserved.ensures.items) (chain_more c.args.machine (g.W.Sink.state c.args.out) (take i events) c.loop-event.replies.items c.event-item.result c.serve-reply.result c.loop-event.live c.serve-reply.new.self (sym even) c.serve-reply.ensures.served c.loop-event.invariant.chain);
      alike = kept.0;
      unsteady = rw (more, c.push_reserved.ensures.items) kept.1;
      so_far = λ honest. rw c.push_reserved.ensures.items
          (so_far_more _ _ c.args.events.now c.loop-event.event-index c.event-item.result c.event-item.result c.loop-event.replies.items c.serve-reply.result c.loop-event.live c.serve-reply.new.self
          below c.event-item.is (omega (arith, c.loop-event.invariant.count)) c.recall.ensures c.serve-reply.ensures.served (c.loop-event.invariant.so_far honest));
    }

pub returns-clause-ran : goal.returns-clause-ran
returns-clause-ran g c = λ honest. ran _ _ (take c.loop-event.event-index c.args.events.now) c.args.events.now c.loop-event.replies.items _ _ c.loop-event.live (take_all c.loop-event.event-index c.args.events.now (omega arith) (omega arith))
    c.shapes-shapes.ensures.sound (ap state_of c.into_parts-machine-2.ensures.machine) c.into_parts-machine-2.ensures.out (c.loop-event.invariant.so_far honest)

pub returns-in-Err-clause-unsteady : goal.returns-in-Err-clause-unsteady
returns-in-Err-clause-unsteady g c = rw c.new-in-Err.ensures.items (no_replies (all_marks c.args.machine) c.args.events.now)

pub returns-in_default-clause-unsteady : goal.returns-in_default-clause-unsteady
returns-in_default-clause-unsteady g c = rw c.new-in_default.ensures.items (no_replies (all_marks c.args.machine) c.args.events.now)

pub returns-in-Err-clause-honest : goal.returns-in-Err-clause-honest
returns-in-Err-clause-honest g c = λ honest. subst AreHonest (sym c.in-Err.ensures.err.0) honest

pub returns-in_default-clause-honest : goal.returns-in_default-clause-honest
returns-in_default-clause-honest g c = λ honest. subst AreHonest (sym (c.into_parts-machine.ensures.machine ∙ c.in-Ok.ensures.machine)) honest

pub returns-clause-honest : goal.returns-clause-honest
returns-clause-honest g c = λ honest. subst AreHonest (sym c.into_parts-machine-2.ensures.machine) (c.loop-event.invariant.so_far honest).relates.honest

pub returns-in-Err-clause-steady : goal.returns-in-Err-clause-steady
returns-in-Err-clause-steady g c = λ dev. ap (λ (m : Seen). (marks_at (all_marks m) dev).steady) c.in-Err.ensures.err.0

pub returns-in_default-clause-steady : goal.returns-in_default-clause-steady
returns-in_default-clause-steady g c = λ dev. ap (λ (m : Seen). (marks_at (all_marks m) dev).steady) (c.into_parts-machine.ensures.machine ∙ c.in-Ok.ensures.machine)

pub returns-clause-steady : goal.returns-clause-steady
unfolding AreAlike
returns-clause-steady g c = λ dev. ap (λ (m : Seen). (marks_at (all_marks m) dev).steady) c.into_parts-machine-2.ensures.machine ∙ c.loop-event.invariant.alike dev

pub returns-in-Err-clause-unplayed : goal.returns-in-Err-clause-unplayed
returns-in-Err-clause-unplayed g c = λ none. c.in-Err.ensures.err.0

pub returns-in-Err-clause-unwritten : goal.returns-in-Err-clause-unwritten
returns-in-Err-clause-unwritten g c = λ none. ap g.W.Sink.state c.in-Err.ensures.err.1

pub returns-in_default-clause-unplayed : goal.returns-in_default-clause-unplayed
returns-in_default-clause-unplayed g c = λ none. c.into_parts-machine.ensures.machine ∙ c.in-Ok.ensures.machine

pub returns-in_default-clause-unwritten : goal.returns-in_default-clause-unwritten
returns-in_default-clause-unwritten g c = λ none. c.into_parts-machine.ensures.out ∙ c.in-Ok.ensures.out

pub returns-clause-unplayed : goal.returns-clause-unplayed
returns-clause-unplayed g c = λ none. c.into_parts-machine-2.ensures.machine ∙ c.loop-event.invariant.unplayed none

pub returns-clause-unwritten : goal.returns-clause-unwritten
returns-clause-unwritten g c = λ none. c.into_parts-machine-2.ensures.out ∙ c.loop-event.invariant.unwritten none

pub returns-in-Err-clause-streamed : goal.returns-in-Err-clause-streamed
returns-in-Err-clause-streamed g c = λ has. absurd (none_stopped c.new-in-Err.result.items c.new-in-Err.ensures.items has)

pub returns-in_default-clause-streamed : goal.returns-in_default-clause-streamed
returns-in_default-clause-streamed g c = λ has. absurd (none_stopped c.new-in_default.result.items c.new-in_default.ensures.items has)

pub returns-clause-streamed : goal.returns-clause-streamed
returns-clause-streamed g c = λ has. written_stream _ _ c.loop-event.replies.items _ c.loop-event.live (ap state_of c.into_parts-machine-2.ensures.machine) c.into_parts-machine-2.ensures.out c.loop-event.invariant.written has

pub returns-in-Err-clause-served : goal.returns-in-Err-clause-served
returns-in-Err-clause-served g c = λ some. absurd (some c.new-in-Err.ensures.items)

pub returns-in_default-clause-served : goal.returns-in_default-clause-served
returns-in_default-clause-served g c = λ some. absurd (some c.new-in_default.ensures.items)

pub returns-clause-served : goal.returns-clause-served
returns-clause-served g c = λ some.
    let i = c.loop-event.event-index in
    let count : i ≡ length c.loop-event.replies.items = omega (arith, c.loop-event.invariant.count) in
    was_served c.args.machine (g.W.Sink.state c.args.out) c.args.events.now (take i c.args.events.now) c.loop-event.replies.items c.loop-event.live _ _ (ap (λ (n : ℕ). take n c.args.events.now) count)
    c.into_parts-machine-2.ensures.machine c.into_parts-machine-2.ensures.out c.loop-event.invariant.chain
