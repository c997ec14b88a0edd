use Rattle.std.proofs.Common.{◌≡◌, drop}
use Rattle.c_machine.specs.Named.{are_zeros}
use Rattle.c_machine.proofs.device_shape.are_zeros.Given as goal

abbrev pub invariant-loop-word : goal.invariant-loop-word
invariant-loop-word l = are_zeros (drop l.word-index l.words) ≡ are_zeros l.words
