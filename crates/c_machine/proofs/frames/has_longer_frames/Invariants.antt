use Rattle.std.proofs.Common.{◌≡◌, drop}
use Rattle.c_machine.specs.Frames.{has_longer_frames}
use Rattle.c_machine.proofs.frames.has_longer_frames.Given as goal

abbrev pub invariant-loop-shape : goal.invariant-loop-shape
invariant-loop-shape l = has_longer_frames l.fn.most (drop l.shape-index l.shapes) ≡ has_longer_frames l.fn.most l.shapes
