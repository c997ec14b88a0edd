use Rattle.std.proofs.Common.{◌≡◌, ◌+◌, ◌*◌, ◌≤◌, length, take}
use Rattle.std.specs.List.{flat_map}
use Rattle.wire.specs.FrameText.{frame_text}
use Rattle.wire.proofs.frame_writing.frames_len.Given as goal

abbrev pub invariant-loop-i : goal.invariant-loop-i
invariant-loop-i l = record {
  low : l.len ≤ 2 + 65537 * l.i;
  sum : l.len ≡ 2 + length (flat_map frame_text (take l.i l.inbox.frames));
}
