use Rattle.std.proofs.Common.{◌≡◌, ◌≤◌, ◌+◌, ◌++◌, length, vec_len}
use Rattle.std.specs.Vec.{vec_capacity}
use Rattle.machine.specs.First.{seen_devices}
use Rattle.machine.proofs.machine.room.with_sectors.Given as goal

abbrev pub invariant-loop-state : goal.invariant-loop-state
invariant-loop-state g l = record {
  room : vec_len l.devices + length l.state-iterator.rest.items ≤ vec_capacity l.devices;
  so_far : l.devices.items ++ seen_devices l.state-iterator.rest.items l.sectors.rest.items ≡ seen_devices l.fn.states.items l.fn.sectors.items;
}
