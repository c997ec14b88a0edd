use Rattle.std.proofs.Common.{◌+◌, ◌≤◌, length, take, vec_len}
use Rattle.std.specs.Vec.{vec_capacity}
use Rattle.rehearsal.specs.Rehearsing.{HasPlayed, PlaysOn, guests_of}
use Rattle.rehearsal.proofs.rehearsing.Sent.go_on.Given as goal

abbrev pub invariant-loop-event : goal.invariant-loop-event
invariant-loop-event g l = record {
  room : vec_len l.replies + length l.rest ≤ vec_capacity l.replies + l.event-index;
  arrived_room : vec_len l.arrived_replies + length l.rest ≤ vec_capacity l.arrived_replies + l.event-index;
  source : PlaysOn l.fn.self.source (guests_of (take l.event-index l.rest)) l.fn.self.replies.items l.replies.items l.source;
  arrived : HasPlayed l.fn.arrived (guests_of (take l.event-index l.rest)) l.arrived_replies.items l.arrived;
}
