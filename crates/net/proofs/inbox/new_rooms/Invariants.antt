use Rattle.std.proofs.Common.{◌≡◌, ◌≤◌, vec_len}
use Rattle.std.specs.List.{All}
use Rattle.std.specs.Vec.{vec_capacity}
use Rattle.net.specs.Kept.{HasRoom}
use Rattle.net.proofs.inbox.new_rooms.Given as goal

abbrev pub invariant-loop-room : goal.invariant-loop-room
invariant-loop-room l = record {
  placed : l.count ≤ vec_capacity l.rooms;
  each : vec_len l.rooms ≡ l._room;
  rooms : All (HasRoom l.longest) l.rooms.items;
}
