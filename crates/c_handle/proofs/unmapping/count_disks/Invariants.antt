use Rattle.std.proofs.Common.{◌≡◌, ◌+◌, ◌≤◌, drop, length}
use Rattle.machine.specs.Shapes.{disk_sizes}
use Rattle.c_handle.proofs.unmapping.count_disks.Given as goal

abbrev pub invariant-loop-shape : goal.invariant-loop-shape
invariant-loop-shape l = record {
  few : l.count ≤ l.shape-index;
  rest : l.count + length (disk_sizes (drop l.shape-index l.shapes)) ≡ length (disk_sizes l.shapes);
}
