use Rattle.std.proofs.Common.{drop, take}
use Rattle.chains.specs.Footprint.{Knows, place_pieces}
use Rattle.chains.specs.Places.{places}
use Rattle.chains.proofs.lacking.lacks_bytes.Given as goal

abbrev pub invariant-loop-seg : goal.invariant-loop-seg
invariant-loop-seg l = Knows l.held l.ram.bytes (place_pieces l.base (take l.left (drop l.skip (places (drop l.seg-index l.segs))))) → Knows l.fn.held l.fn.ram.bytes (place_pieces l.fn.base (take l.fn.count (drop l.fn.skip (places l.fn.segs))))
