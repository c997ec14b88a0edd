use Rattle.std.proofs.Common.{◌≡◌, ◌+◌, ◌-◌, length, take, drop, get_or, arith, length-drop, length-take-le}
use Rattle.guestmem.specs.Address.{IsWithin, index_of}
use Rattle.chains.specs.declared.segs.Seg.{Seg}
use Rattle.chains.proofs.Copies.{length_here, passed_bytes, read_more, length-put_mid}
use Rattle.chains.proofs.copy.copy_out_of_many.Goals as goal

pub loop-seg-preserved-then-skip-len : goal.loop-seg-preserved-then-skip-len
loop-seg-preserved-then-skip-len c =
    let none : Seg = record { addr = 0; len = 0 } in
    let long = length_here c.args.segs.now c.loop-seg.seg-index none c.loop-seg-test.true in
    let e = passed_bytes c.args.base c.args.ram.now.bytes c.args.segs.now c.loop-seg.seg-index c.loop-seg.skip none c.loop-seg-test.true c.if-skip-len.true in
    record {
      filled = c.loop-seg.invariant.filled;
      room = omega (arith, c.loop-seg.invariant.room);
      bytes = rw e at c.loop-seg.invariant.bytes;
    }

pub loop-seg-preserved : goal.loop-seg-preserved
loop-seg-preserved c =
    let none : Seg = record { addr = 0; len = 0 } in
    let segs = c.args.segs.now in
    let i = c.loop-seg.seg-index in
    let seg = get_or segs i none in
    let buf = c.loop-seg.buf in
    let count = c.min-count.result in
    let long = length_here segs i none c.loop-seg-test.true in
    let same : c.loop-seg.filled + count - c.loop-seg.filled ≡ count = omega arith in
    let part : length (take count (drop c.loop-seg.filled buf)) ≡ count = length-take-le count (drop c.loop-seg.filled buf) (rw length-drop (omega arith)) in
    let piece : c.get.new.buf ≡ take count (drop (index_of c.args.base seg.addr + c.loop-seg.skip) c.args.ram.now.bytes) = rw (same, part) at c.get.ensures in
    let inside : IsWithin c.args.base (length c.args.ram.now.bytes) seg.addr seg.len = c.requires.inside i none c.loop-seg-test.true in
    let size : length c.get.new.buf ≡ count = rw piece (length-take-le count (drop (index_of c.args.base seg.addr + c.loop-seg.skip) c.args.ram.now.bytes) (rw length-drop (omega (arith, inside.below, inside.above)))) in
    let whole = length-put_mid c.loop-seg.filled count buf c.get.new.buf (omega arith) size in
    rw (same, whole) (record {
      filled = omega arith;
      room = omega (arith, c.loop-seg.invariant.room);
      bytes = read_more c.args.base c.args.ram.now.bytes buf c.get.new.buf _ segs i c.loop-seg.skip c.loop-seg.filled count none c.loop-seg-test.true (omega arith) inside (omega arith) c.min-count.ensures size piece c.loop-seg.invariant.bytes;
    })
