use Rattle.std.proofs.Common.{◌≡◌, ◌≤◌, drop, length}
use Rattle.machine.specs.First.{are_same}
use Rattle.machine.specs.Shapes.{disk_sizes}
use Rattle.c_machine.specs.Making.{shapes_of}
use Rattle.c_machine.specs.Mapping.{counts}
use Rattle.c_machine.proofs.mapping.are_counted.Given as goal

abbrev pub invariant-loop-shape : goal.invariant-loop-shape
invariant-loop-shape l = record {
  same : l.images ≡ l.fn.images;
  within : l.at ≤ length l.fn.images;
  rest : are_same (disk_sizes (shapes_of (drop l.shape-index l.shapes))) (counts (drop l.at l.fn.images)) ≡ are_same (disk_sizes (shapes_of l.shapes)) (counts l.fn.images);
}
