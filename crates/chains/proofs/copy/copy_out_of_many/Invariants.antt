use Rattle.std.proofs.Common.{◌≡◌, ◌+◌, ◌-◌, ◌≤◌, ◌++◌, length, take, drop}
use Rattle.chains.specs.Places.{places, read_places}
use Rattle.chains.proofs.copy.copy_out_of_many.Given as goal

abbrev pub invariant-loop-seg : goal.invariant-loop-seg
invariant-loop-seg l = record {
  filled : l.filled ≤ length l.buf;
  room : l.skip + (length l.buf - l.filled) ≤ length (places (drop l.seg-index l.segs));
  bytes : take l.filled l.buf ++ take (length l.buf - l.filled) (drop l.skip (read_places l.fn.base l.ram.bytes (places (drop l.seg-index l.segs))))
      ≡ take (length l.fn.buf) (drop l.fn.at (read_places l.fn.base l.ram.bytes (places l.segs)));
}
