use Rattle.std.proofs.Common.{◌≡◌, ◌∷◌, ◌++◌, [], take, length, ◌+◌, refl, arith}
use Rattle.std.proofs.lemmas.List.{length-take, take_all, take_more}
use Rattle.guestmem.proofs.LaterLaws.{later_same, later_trans}
use Rattle.machine.specs.Seen.{all_marks, state_of}
use Rattle.machine.proofs.Calling.{called_more}
use Rattle.machine.proofs.Failing.{honest_for, honest_stays, marks_more, unsteady_more}
use Rattle.machine.proofs.Honest.{honest_step}
use Rattle.machine.proofs.Running.{applied_more, run_more}
use Rattle.machine.proofs.machine.apply.MachineOver+D+Ram.play.Goals as goal

pub loop-event-preserved : goal.loop-event-preserved
loop-event-preserved g c =
    let i = c.loop-event.event-index in
    let events = c.args.events.now in
    let old = all_marks c.args.self.now in
    let replies = c.loop-event.replies.items in
    let e = c.event-item.result in
    let r = c.apply-reply.result in
    let more : take (i + 1) events ≡ take i events ++ e ∷ [] = rw (take_more events i e c.loop-event-test.true, ← c.event-item.is) refl in
    let even : length replies ≡ length (take i events) = omega (arith, c.loop-event.invariant.count, length-take i events, c.loop-event-test.true) in
    record {
      room = omega arith;
      count = omega arith;
      marks = rw (more, c.push_reserved.ensures.items) (marks_more old (all_marks c.loop-event.self) (take i events) replies e r even c.loop-event.invariant.marks c.apply-reply.ensures.applied.marks);
      unsteady = rw (more, c.push_reserved.ensures.items) (unsteady_more old (all_marks c.loop-event.self) (take i events) replies e r even c.loop-event.invariant.marks c.loop-event.invariant.unsteady c.apply-reply.ensures.applied.unsteady);
      later = later_trans c.args.self.now.memory c.loop-event.self.memory c.apply-reply.new.self.memory c.loop-event.invariant.later c.apply-reply.ensures.applied.later;
      sound = c.apply-reply.ensures.applied.sound;
      applied = rw (more, c.push_reserved.ensures.items) (applied_more c.args.self.now c.loop-event.self c.apply-reply.new.self (take i events) replies e r c.loop-event.invariant.applied c.apply-reply.ensures.applied);
      calls = rw (more, c.push_reserved.ensures.items) (called_more g.D.Disk.called c.args.self.now c.loop-event.self c.apply-reply.new.self (take i events) replies e r c.loop-event.invariant.calls c.apply-reply.ensures.applied c.apply-reply.ensures.calls);
      so_far = λ honest. rw (more, c.push_reserved.ensures.items)
          (run_more (state_of c.args.self.now) (state_of c.loop-event.self) (state_of c.apply-reply.new.self) (take i events) replies e r (c.loop-event.invariant.so_far honest)
          (honest_step c.loop-event.self c.apply-reply.new.self e r c.apply-reply.ensures.applied (honest_for (all_marks c.loop-event.self) e (honest_stays old (all_marks c.loop-event.self) (take i events) replies c.loop-event.invariant.marks honest))));
    }

pub loop-event-init : goal.loop-event-init
loop-event-init g c =
    let none = c.in_ok-replies.ensures.items in
    record {
      room = omega (arith, c.in_ok-replies.ensures.capacity);
      count = c.in_ok-replies.ensures.len;
      marks = refl;
      unsteady = tt;
      later = later_same c.args.self.now.memory;
      sound = rw (← c.self.view_is) c.self.invariant.0.sound;
      applied = rw none refl;
      calls = rw none refl;
      so_far = λ honest. rw none refl;
    }

pub push_reserved-requires : goal.push_reserved-requires
push_reserved-requires g c = omega (arith, c.loop-event.invariant.room, c.loop-event.invariant.count, c.loop-event-test.true)

pub returns-clause-each : goal.returns-clause-each
returns-clause-each g c = omega (arith, c.loop-event.invariant.count, c.loop-event-test.false)

pub returns-clause-run : goal.returns-clause-run
returns-clause-run g c = λ honest.
    let all : take c.loop-event.event-index c.args.events.now ≡ c.args.events.now = take_all c.loop-event.event-index c.args.events.now c.loop-event-test.false in
    rw all at (c.loop-event.invariant.so_far honest)

pub returns-clause-applied : goal.returns-clause-applied
returns-clause-applied g c =
    let all : take c.loop-event.event-index c.args.events.now ≡ c.args.events.now = take_all c.loop-event.event-index c.args.events.now c.loop-event-test.false in
    rw all at c.loop-event.invariant.applied

pub returns-clause-calls : goal.returns-clause-calls
returns-clause-calls g c =
    let all : take c.loop-event.event-index c.args.events.now ≡ c.args.events.now = take_all c.loop-event.event-index c.args.events.now c.loop-event-test.false in
    rw all at c.loop-event.invariant.calls

pub returns-clause-sound : goal.returns-clause-sound
returns-clause-sound g c = c.loop-event.invariant.sound

pub returns-clause-later : goal.returns-clause-later
returns-clause-later g c = c.loop-event.invariant.later

pub returns-clause-marks : goal.returns-clause-marks
returns-clause-marks g c =
    let all : take c.loop-event.event-index c.args.events.now ≡ c.args.events.now = take_all c.loop-event.event-index c.args.events.now c.loop-event-test.false in
    rw all at c.loop-event.invariant.marks

pub returns-clause-unsteady : goal.returns-clause-unsteady
returns-clause-unsteady g c =
    let all : take c.loop-event.event-index c.args.events.now ≡ c.args.events.now = take_all c.loop-event.event-index c.args.events.now c.loop-event-test.false in
    rw all at c.loop-event.invariant.unsteady
