use Rattle.std.proofs.Common.{◌≡◌, ◌+◌, ◌≤◌, length, drop}
use Rattle.guestmem.specs.Item.{MayPages, after_all}
use Rattle.guestmem.specs.Later.{IsLater}
use Rattle.guestmem.specs.Memory.{Memory}
use Rattle.guestmem.specs.Rises.{Rises}
use Rattle.guestmem.specs.Writes.{set_all, touched}
use Rattle.chains.specs.Places.{places, place_writes}
use Rattle.chains.proofs.copy.copy_in_with_base.Given as goal

abbrev pub invariant-loop-seg : goal.invariant-loop-seg
invariant-loop-seg g l = record {
  room : l.skip + length l.rest ≤ length (places (drop l.seg-index l.segs));
  size : length l.ram.bytes ≡ length l.fn.ram.bytes;
  later : IsLater l.fn.ram l.ram;
  may : MayPages g.L.TouchLog.may l.log (length l.ram.bytes);
  bytes : set_all l.ram.bytes (place_writes l.fn.base (drop l.skip (places (drop l.seg-index l.segs))) l.rest) ≡ set_all l.fn.ram.bytes (place_writes l.fn.base (drop l.fn.at (places l.segs)) l.fn.bytes);
  log : after_all g.L.TouchLog.after l.log (touched (place_writes l.fn.base (drop l.skip (places (drop l.seg-index l.segs))) l.rest))
      ≡ after_all g.L.TouchLog.after l.fn.log (touched (place_writes l.fn.base (drop l.fn.at (places l.segs)) l.fn.bytes));
  rises : (new : Memory) → Rises (touched (place_writes l.fn.base (drop l.skip (places (drop l.seg-index l.segs))) l.rest)) l.ram new → Rises (touched (place_writes l.fn.base (drop l.fn.at (places l.segs)) l.fn.bytes)) l.fn.ram new;
}
