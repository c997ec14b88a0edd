use Rattle.std.proofs.Common.{◌≡◌, ◌≤◌, take, length, vec_len}
use Rattle.std.specs.Vec.{vec_capacity}
use Rattle.c_machine.specs.Making.{shapes_of}
use Rattle.c_machine.proofs.making.shapes_of.Given as goal

abbrev pub invariant-loop-shape : goal.invariant-loop-shape
invariant-loop-shape l = record {
  room : length l.fn.shapes ≤ vec_capacity l.made;
  count : vec_len l.made ≡ l.shape-index;
  made : l.made.items ≡ shapes_of (take l.shape-index l.fn.shapes);
}
