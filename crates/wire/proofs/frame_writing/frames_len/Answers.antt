use Rattle.std.proofs.Common.{arith}
use Rattle.wire.specs.FrameText.{frame_text}
use Rattle.wire.proofs.FrameLemmas.{length-frame_text}
use Rattle.wire.proofs.Saving.{length_found}
use Rattle.wire.proofs.frame_writing.frames_len.Goals as goal

pub loop-i-preserved : goal.loop-i-preserved
loop-i-preserved c = record {
  low = omega (arith, c.loop-i.invariant.low, c.frame.ensures.frame.short, c.longest.ensures);
  sum = omega (arith, c.loop-i.invariant.sum, length_found frame_text c.args.inbox.now.frames c.loop-i.i c.frame.result.now c.frame.ensures.bytes, length-frame_text c.frame.result.now);
}
