use Rattle.std.proofs.Common.{◌≡◌, drop}
use Rattle.std.specs.Prelude.{max}
use Rattle.c_machine.specs.Frames.{longest_frame}
use Rattle.c_machine.specs.Making.{shapes_of}
use Rattle.c_machine.proofs.frames.longest_frame_of.Given as goal

abbrev pub invariant-loop-shape : goal.invariant-loop-shape
invariant-loop-shape l = max l.most (longest_frame (shapes_of (drop l.shape-index l.shapes))) ≡ longest_frame (shapes_of l.shapes)
