use Rattle.std.proofs.Common.{◌≡◌, ◌+◌, List, length, false}
use Rattle.chains.specs.declared.descriptor.Descriptor.{Descriptor}
use Rattle.chains.specs.Decoder.{HasDecoded}
use Rattle.chains.specs.Held.{AreHeld, segment_count}
use Rattle.splitring.proofs.Leading.{IsWalked}
use Rattle.splitring.proofs.walk.walk.Given as goal

abbrev pub invariant-loop-step : goal.invariant-loop-step
invariant-loop-step l = record {
  walked : (before : List Descriptor) → AreHeld l.core.base (length l.ram.bytes) before l.fn.chain → IsWalked l.core.base l.ram.bytes l.table.at l.table.entries l.first before l.chain l._step l.index;
  count : segment_count l.chain ≡ segment_count l.fn.chain + l._step;
  decoded : HasDecoded l.fn.decoder l.decoder l.ram l._step;
  apart : l.table.is_own ≡ false → l.decoder.kept ≡ l.fn.decoder.kept;
}
