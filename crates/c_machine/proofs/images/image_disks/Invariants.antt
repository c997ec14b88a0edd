use Rattle.std.proofs.Common.{◌≡◌, ◌++◌, drop, length, map}
use Rattle.std.specs.Prelude.{All}
use Rattle.std.specs.List.{concat, flat_map}
use Rattle.blk.specs.Disk.{AreSectors}
use Rattle.machine.specs.Shapes.{disk_sizes}
use Rattle.c_machine.specs.Images.{image_size}
use Rattle.c_machine.proofs.images.image_disks.Given as goal

abbrev pub invariant-loop-shape : goal.invariant-loop-shape
invariant-loop-shape l = record {
  long : length l.rest ≡ image_size (drop l.shape-index l.shapes);
  sizes : map length l.disks.items ++ disk_sizes (drop l.shape-index l.shapes) ≡ disk_sizes l.shapes;
  sectors : All AreSectors l.disks.items;
  bytes : flat_map concat l.disks.items ++ l.rest ≡ l.images;
}
