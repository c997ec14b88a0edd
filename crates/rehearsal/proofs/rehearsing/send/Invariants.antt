use Rattle.std.proofs.Common.{◌-◌, ◌≤◌, length, vec_len}
use Rattle.std.specs.Vec.{vec_capacity}
use Rattle.rehearsal.proofs.Sending.{IsSending}
use Rattle.rehearsal.proofs.rehearsing.send.Given as goal

abbrev pub invariant-loop-stopped : goal.invariant-loop-stopped
invariant-loop-stopped g l = record {
  room : length l.events ≤ vec_capacity l.replies;
  few : vec_len l.replies ≤ length l.events;
  sending : IsSending l.fn.machine l.events l.replies.items l.stopped l.live;
}

abbrev pub decreases-loop-stopped : goal.decreases-loop-stopped
decreases-loop-stopped g l = length l.events - vec_len l.replies
