use Rattle.std.proofs.Common.{◌≡◌, ◌==◌, drop}
use Rattle.c_machine.specs.Images.{image_size, sectors_in}
use Rattle.c_machine.specs.Making.{shapes_of}
use Rattle.c_machine.proofs.images.are_images.Given as goal

abbrev pub invariant-loop-shape : goal.invariant-loop-shape
invariant-loop-shape l = (l.left == sectors_in (shapes_of (drop l.shape-index l.shapes))) ≡ (l.bytes == image_size (shapes_of l.shapes))
