use Rattle.std.proofs.Common.{◌≡◌, drop}
use Rattle.c_machine.specs.Named.{are_zeros}
use Rattle.c_machine.proofs.device_shape.are_zero_bytes.Given as goal

abbrev pub invariant-loop-byte : goal.invariant-loop-byte
invariant-loop-byte l = are_zeros (drop l.byte-index l.bytes) ≡ are_zeros l.bytes
