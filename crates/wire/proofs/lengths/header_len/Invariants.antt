use Rattle.std.proofs.Common.{◌≡◌, ◌+◌, ◌*◌, ◌≤◌, length, take}
use Rattle.std.specs.List.{flat_map}
use Rattle.wire.specs.Header.{spelled_shape}
use Rattle.wire.proofs.lengths.header_len.Given as goal

abbrev pub invariant-loop-i : goal.invariant-loop-i
invariant-loop-i l = record {
  low : l.len ≤ 16 + 30 * l.i;
  sum : l.len ≡ 16 + length (flat_map spelled_shape (take l.i l.shapes));
}
