use Rattle.std.proofs.Common.{length, take, arith}
use Rattle.rehearsal.specs.Rehearsing.{guests_of}
use Rattle.rehearsal.proofs.GoingOn.{behind, goes_more, gone_on, no_guest, not_guest, one_guest, played_more}
use Rattle.rehearsal.proofs.rehearsing.Sent.go_on.Goals as goal

pub loop-event-preserved-in_default : goal.loop-event-preserved-in_default
loop-event-preserved-in_default g c =
    let i = c.loop-event.invariant in
    let same = no_guest c.split_at.result.1.now c.loop-event.event-index c.event-item.result c.loop-event-test.true c.event-item.is (not_guest c.event-item.result c.in_default.not-Guest) in
    record {
      room = omega (arith, i.room);
      arrived_room = omega (arith, i.arrived_room);
      source = rw same i.source;
      arrived = rw same i.arrived;
    }

pub loop-event-preserved : goal.loop-event-preserved
loop-event-preserved g c =
    let i = c.loop-event.invariant in
    let so_far = guests_of (take c.loop-event.event-index c.split_at.result.1.now) in
    let more = one_guest c.split_at.result.1.now c.loop-event.event-index c.event-item.result c.in-Guest.event c.loop-event-test.true c.event-item.is c.in-Guest.is in
    record {
      room = omega (arith, i.room, c.push_reserved.ensures.len, c.push_reserved.ensures.capacity);
      arrived_room = omega (arith, i.arrived_room, c.push_reserved-in-loop-event.ensures.len, c.push_reserved-in-loop-event.ensures.capacity);
      source = rw (more, c.push_reserved.ensures.items)
          (goes_more c.args.self.source c.loop-event.source c.apply-reply.new.self so_far c.args.self.replies.items c.loop-event.replies.items c.in-Guest.event c.apply-reply.result i.source c.apply-reply.ensures.applied);
      arrived = rw (more, c.push_reserved-in-loop-event.ensures.items)
          (played_more c.args.arrived c.loop-event.arrived c.apply-arrived_reply.new.self so_far c.loop-event.arrived_replies.items c.in-Guest.event c.apply-arrived_reply.result i.arrived c.apply-arrived_reply.ensures.applied);
    }

pub returns : goal.returns
returns g c =
    let i = c.loop-event.invariant in
    let rest = behind c.args.events.now c.split_at.result.1.now _ (length c.args.self.replies.items) c.split_at.ensures.back (omega (arith, c.len.ensures, c.args.self.replies.ok.0)) in
    gone_on c.args.self.source c.loop-event.source c.args.arrived c.loop-event.arrived c.args.events.now c.split_at.result.1.now c.loop-event.event-index c.args.self.replies.items c.loop-event.replies.items c.loop-event.arrived_replies.items
    rest (omega (arith, c.loop-event-test.false)) i.source i.arrived
