use Rattle.std.proofs.Common.{◌≡◌, ◌≤◌, [], length, take, vec_len}
use Rattle.std.specs.Vec.{vec_capacity}
use Rattle.machine.specs.Seen.{AreHonest, all_marks, state_of}
use Rattle.sender.specs.Ran.{AllNameUnsteady}
use Rattle.sender.proofs.AsTold.{HasWritten}
use Rattle.sender.proofs.Chained.{Chain}
use Rattle.sender.proofs.Replaying.{SoFar}
use Rattle.sender.proofs.Steady.{AreAlike}
use Rattle.sender.proofs.playing.replay.Given as goal

abbrev pub invariant-loop-event : goal.invariant-loop-event
invariant-loop-event g l = record {
  room : length l.events ≤ vec_capacity l.replies;
  count : vec_len l.replies ≡ l.event-index;
  unplayed : l.replies.items ≡ [] → l.live.machine ≡ l.fn.machine;
  unwritten : l.replies.items ≡ [] → l.live.out ≡ g.W.Sink.state l.fn.out;
  written : HasWritten (g.W.Sink.state l.fn.out) l.replies.items l.live;
  chain : Chain l.fn.machine (g.W.Sink.state l.fn.out) (take l.event-index l.events) l.replies.items l.live;
  alike : AreAlike (all_marks l.fn.machine) (all_marks l.live.machine);
  unsteady : AllNameUnsteady (all_marks l.fn.machine) (take l.event-index l.events) l.replies.items;
  so_far : AreHonest l.fn.machine → SoFar (state_of l.fn.machine) (g.W.Sink.state l.fn.out) (take l.event-index l.events) l.replies.items l.live;
}
