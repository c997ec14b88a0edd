use Rattle.std.proofs.Common.{◌≡◌, ◌≤◌, length, take, map, vec_len}
use Rattle.std.specs.Vec.{vec_capacity}
use Rattle.guestmem.specs.Later.{IsLater}
use Rattle.machine.specs.Applied.{AreApplied, FailOnlyUnsteady, marks_run}
use Rattle.machine.specs.Calls.{HaveCalled}
use Rattle.machine.specs.Seen.{AreHonest, state_of, all_marks}
use Rattle.machine.specs.Outcome.{outcome_of}
use Rattle.machine.specs.Run.{IsRun}
use Rattle.machine.specs.Sound.{IsSound}
use Rattle.machine.proofs.machine.apply.MachineOver+D+Ram.play.Given as goal

abbrev pub invariant-loop-event : goal.invariant-loop-event
invariant-loop-event g l = record {
  room : length l.events ≤ vec_capacity l.replies;
  count : vec_len l.replies ≡ l.event-index;
  marks : all_marks l.self ≡ marks_run (all_marks l.fn.self) (take l.event-index l.events) l.replies.items;
  unsteady : FailOnlyUnsteady (all_marks l.fn.self) (take l.event-index l.events) l.replies.items;
  later : IsLater l.fn.self.memory l.self.memory;
  sound : IsSound (state_of l.self);
  applied : AreApplied l.fn.self (take l.event-index l.events) l.replies.items l.self;
  calls : HaveCalled g.D.Disk.called l.fn.self (take l.event-index l.events) l.replies.items l.self;
  so_far : AreHonest l.fn.self → IsRun (state_of l.fn.self) (take l.event-index l.events) (map outcome_of l.replies.items) l.replies.items (state_of l.self);
}
