use Rattle.std.proofs.Common.{◌≡◌, ◌+◌, ◌<◌, length, take}
use Rattle.std.specs.List.{flat_map}
use Rattle.std.specs.Prelude.{◌%◌}
use Rattle.wire.specs.RequestText.{request_text}
use Rattle.wire.proofs.request_writing.requests_len.Given as goal

abbrev pub invariant-loop-i : goal.invariant-loop-i
invariant-loop-i l = record {
  low : l.len < 4294967296;
  sum : l.len ≡ (1 + length (flat_map request_text (take l.i l.list))) % 4294967296;
}
