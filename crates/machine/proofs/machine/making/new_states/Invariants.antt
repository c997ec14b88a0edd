use Rattle.std.proofs.Common.{◌≡◌, ◌≤◌, length, map, take, vec_len}
use Rattle.std.specs.Vec.{vec_capacity}
use Rattle.machine.specs.Shapes.{first_device}
use Rattle.machine.proofs.machine.making.new_states.Given as goal

abbrev pub invariant-loop-shape : goal.invariant-loop-shape
invariant-loop-shape l = record {
  room : length l.shapes ≤ vec_capacity l.states;
  count : vec_len l.states ≡ l.shape-index;
  first : l.states.items ≡ map (first_device l.ram_base l.ram_len) (take l.shape-index l.shapes);
}
