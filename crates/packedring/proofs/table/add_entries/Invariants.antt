use Rattle.std.proofs.Common.{◌≡◌, length}
use Rattle.chains.specs.Decoder.{HasDecoded}
use Rattle.chains.specs.PackedChain.{entries_from}
use Rattle.chains.specs.Held.{AreHeld, segment_count}
use Rattle.packedring.proofs.table.add_entries.Given as goal

abbrev pub invariant-loop-index : goal.invariant-loop-index
invariant-loop-index l = record {
  held : AreHeld l.base (length l.ram.bytes) (entries_from l.ram.bytes l.table 0 l.index) l.chain;
  count : segment_count l.chain ≡ l.index;
  decoded : HasDecoded l.fn.decoder l.decoder l.ram l.index;
  apart : l.decoder.kept ≡ l.fn.decoder.kept;
}
