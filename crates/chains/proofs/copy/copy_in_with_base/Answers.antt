use Rattle.std.proofs.Common.{◌≡◌, ◌+◌, ◌-◌, ◌<◌, ◌++◌, ◌∙◌, length, drop, get_or, refl, sym, arith, length-drop, take-append-drop}
use Rattle.std.proofs.lemmas.List.{drop_all}
use Rattle.std.proofs.Math.Seq.{drop-nil}
use Rattle.guestmem.specs.Address.{index_of}
use Rattle.guestmem.proofs.LaterLaws.{later_trans}
use Rattle.guestmem.proofs.RisesLaws.{rises_none}
use Rattle.guestmem.proofs.WriteLaws.{set_all-append}
use Rattle.guestmem.specs.Writes.{byte_writes}
use Rattle.chains.specs.declared.segs.Seg.{Seg}
use Rattle.chains.proofs.EffectLaws.{after_touched, rises_touched}
use Rattle.chains.proofs.PlaceLaws.{place_writes_take}
use Rattle.chains.specs.Places.{places, place_writes}
use Rattle.chains.proofs.Copies.{length_here, passed, segment_writes, first_writes}
use Rattle.chains.proofs.copy.copy_in_with_base.Goals as goal

pub loop-seg-preserved-then-skip-len : goal.loop-seg-preserved-then-skip-len
loop-seg-preserved-then-skip-len g c =
    let none : Seg = record { addr = 0; len = 0 } in
    let long = length_here c.args.segs.now c.loop-seg.seg-index none c.loop-seg-test.true in
    let e = passed c.args.segs.now c.loop-seg.seg-index c.loop-seg.skip none c.loop-seg-test.true c.if-skip-len.true in
    record {
      room = omega (arith, c.loop-seg.invariant.room);
      size = c.loop-seg.invariant.size;
      later = c.loop-seg.invariant.later;
      may = c.loop-seg.invariant.may;
      bytes = rw e at c.loop-seg.invariant.bytes;
      log = rw e at c.loop-seg.invariant.log;
      rises = rw e at c.loop-seg.invariant.rises;
    }

pub loop-seg-preserved : goal.loop-seg-preserved
loop-seg-preserved g c =
    let none : Seg = record { addr = 0; len = 0 } in
    let seg = get_or c.args.segs.now c.loop-seg.seg-index none in
    let long = length_here c.args.segs.now c.loop-seg.seg-index none c.loop-seg-test.true in
    let front = c.split_at.result.0.now in
    let back = c.split_at.result.1.now in
    let parts : c.loop-seg.rest.now ≡ front ++ back = sym (rw (c.split_at.ensures.front, c.split_at.ensures.back) (take-append-drop c.min-count.result c.loop-seg.rest.now)) in
    let count : length front ≡ c.min-count.result = c.split_at.ensures.front_len in
    let rest : length back ≡ length c.loop-seg.rest.now - c.min-count.result = rw c.split_at.ensures.back (length-drop c.min-count.result c.loop-seg.rest.now) in
    let within = c.requires.inside c.loop-seg.seg-index none c.loop-seg-test.true in
    let writes = segment_writes c.args.base c.args.segs.now c.loop-seg.seg-index c.loop-seg.skip none c.loop-seg.rest.now front back c.loop-seg-test.true within.above (omega arith) parts (omega arith)
    (λ (h : length front < seg.len - c.loop-seg.skip). rw c.split_at.ensures.back (drop_all c.min-count.result c.loop-seg.rest.now (omega arith))) in
    record {
      room = omega (arith, c.loop-seg.invariant.room);
      size = c.put-in-loop-seg.ensures.size ∙ c.loop-seg.invariant.size;
      later = later_trans _ _ _ c.loop-seg.invariant.later c.put-in-loop-seg.ensures.later;
      may = c.put-in-loop-seg.ensures.may;
      bytes = rw c.put-in-loop-seg.ensures.bytes (sym (set_all-append c.loop-seg.ram.bytes (byte_writes (index_of c.args.base seg.addr + c.loop-seg.skip) front) (place_writes c.args.base (places (drop (c.loop-seg.seg-index + 1) c.args.segs.now)) back)) ∙ (rw writes at c.loop-seg.invariant.bytes));
      log = rw c.put-in-loop-seg.ensures.log (sym (after_touched g.L.TouchLog.after c.loop-seg.log (byte_writes (index_of c.args.base seg.addr + c.loop-seg.skip) front) (place_writes c.args.base (places (drop (c.loop-seg.seg-index + 1) c.args.segs.now)) back)) ∙ (rw writes at c.loop-seg.invariant.log));
      rises = λ new more. (rw writes at c.loop-seg.invariant.rises) new (rises_touched (byte_writes (index_of c.args.base seg.addr + c.loop-seg.skip) front) (place_writes c.args.base (places (drop (c.loop-seg.seg-index + 1) c.args.segs.now)) back) c.loop-seg.ram c.put-in-loop-seg.new.self new c.put-in-loop-seg.ensures.rises more);
    }

pub returns-clause-bytes : goal.returns-clause-bytes
returns-clause-bytes g c =
    let end = drop_all c.loop-seg.seg-index c.args.segs.now (omega arith) in
    rw place_writes_take (rw (end, drop-nil) at c.loop-seg.invariant.bytes)

pub returns-clause-log : goal.returns-clause-log
returns-clause-log g c =
    let end = drop_all c.loop-seg.seg-index c.args.segs.now (omega arith) in
    rw place_writes_take (rw (end, drop-nil) at c.loop-seg.invariant.log)

pub returns-clause-rises : goal.returns-clause-rises
returns-clause-rises g c =
    let end = drop_all c.loop-seg.seg-index c.args.segs.now (omega arith) in
    rw place_writes_take ((rw (end, drop-nil) at c.loop-seg.invariant.rises) c.loop-seg.ram (rises_none c.loop-seg.ram c.loop-seg.ram refl))

pub returns-then-holds-clause-bytes : goal.returns-then-holds-clause-bytes
returns-then-holds-clause-bytes g c =
    let none : Seg = record { addr = 0; len = 0 } in
    let some = c.holds.ensures.some c.if-holds.true in
    rw (first_writes c.args.base c.args.segs.now c.args.at none c.args.bytes.now some (c.requires.inside 0 none some).above (c.holds.ensures.fits c.if-holds.true none)) c.put.ensures.bytes

pub returns-then-holds-clause-log : goal.returns-then-holds-clause-log
returns-then-holds-clause-log g c =
    let none : Seg = record { addr = 0; len = 0 } in
    let some = c.holds.ensures.some c.if-holds.true in
    rw (first_writes c.args.base c.args.segs.now c.args.at none c.args.bytes.now some (c.requires.inside 0 none some).above (c.holds.ensures.fits c.if-holds.true none)) c.put.ensures.log

pub returns-then-holds-clause-rises : goal.returns-then-holds-clause-rises
returns-then-holds-clause-rises g c =
    let none : Seg = record { addr = 0; len = 0 } in
    let some = c.holds.ensures.some c.if-holds.true in
    rw (first_writes c.args.base c.args.segs.now c.args.at none c.args.bytes.now some (c.requires.inside 0 none some).above (c.holds.ensures.fits c.if-holds.true none)) c.put.ensures.rises
