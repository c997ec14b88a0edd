use Rattle.std.proofs.Common.{arith, refl, rules, inl, ap, sym, ◌∙◌, List, Bool, true, false, [], get_or, length, map, ◌≡◌, ◌<◌}
use Rattle.std.specs.Prelude.{set}
use Rattle.std.specs.Array.{IsFirstChunk}
use Rattle.std.proofs.lemmas.List.{get_or-map, length-map, length-set, length-take, map-set}
use Rattle.guestmem.proofs.ByteLaws.{IsBytes-take}
use Rattle.wire.specs.declared.record_head.RecordHead.TheVariants as heads
use Rattle.receiver.specs.Disks.{sizes_of}
use Rattle.receiver.proofs.Sectors.{sizes_kept}
use Rattle.receiver.proofs.Spots.{no_spot, on_disk, spot_of}
use Rattle.receiver.proofs.Standing.{entered_refused, entered_waits, marks_long, opens_at, sized_on}
use Rattle.receiver.proofs.Writing.{disk_told, in_range, size_told, took_good, write_failed}
use Rattle.receiver.proofs.intake.take_good.Goals as goal

pub write-requires : goal.write-requires
write-requires g c =
    let there = on_disk (sizes_of g.D.Disk.state c.args.disks.now) c.args.intake.now c.args.dev c.args.number c.in-Some.spot.disk c.requires.sized c.requires.fits c.in-Some.ensures.found.there c.in-Some.ensures.found.disk in
    omega (arith, size_told g.D.Disk.state c.args.disks.now c.in-Some.spot.disk c.index-disks-spot.result c.args.number there)

pub bounds-disks-spot : goal.bounds-disks-spot
bounds-disks-spot g c =
    let there = on_disk (sizes_of g.D.Disk.state c.args.disks.now) c.args.intake.now c.args.dev c.args.number c.in-Some.spot.disk c.requires.sized c.requires.fits c.in-Some.ensures.found.there c.in-Some.ensures.found.disk in
    disk_told g.D.Disk.state c.args.disks.now c.in-Some.spot.disk c.args.number there

pub offset_bounds-disks-spot : goal.offset_bounds-disks-spot
offset_bounds-disks-spot g c =
    let there = on_disk (sizes_of g.D.Disk.state c.args.disks.now) c.args.intake.now c.args.dev c.args.number c.in-Some.spot.disk c.requires.sized c.requires.fits c.in-Some.ensures.found.there c.in-Some.ensures.found.disk in
    let low : c.in-Some.spot.disk < length c.args.disks.now = disk_told g.D.Disk.state c.args.disks.now c.in-Some.spot.disk c.args.number there in
    search rules

pub returns-in_default-clause-entered : goal.returns-in_default-clause-entered
returns-in_default-clause-entered g c = λ front tail opening before are h o.
    entered_refused (map g.D.Disk.state c.args.disks.now) opening before c.args.intake.now front tail c.args.behind.now (heads.Sector c.args.dev c.args.number true) o (no_spot c.args.dev c.args.number h c.in_default.ensures.found)

pub returns-in_default-first_chunk-clause-entered : goal.returns-in_default-first_chunk-clause-entered
returns-in_default-first_chunk-clause-entered g c = λ front tail opening before are h o.
    let at = spot_of c.args.dev c.args.number c.in-Some.spot h c.in-Some.ensures.found in
    entered_waits (map g.D.Disk.state c.args.disks.now) opening before c.args.intake.now front tail c.args.behind.now (heads.Sector c.args.dev c.args.number true) are h o at.there c.in_default-first_chunk.ensures.cases

pub returns-in-Err-clause-sizes : goal.returns-in-Err-clause-sizes
returns-in-Err-clause-sizes g c =
    let state = g.D.Disk.state in
    let there = on_disk (sizes_of state c.args.disks.now) c.args.intake.now c.args.dev c.args.number c.in-Some.spot.disk c.requires.sized c.requires.fits c.in-Some.ensures.found.there c.in-Some.ensures.found.disk in
    let low = disk_told state c.args.disks.now c.in-Some.spot.disk c.args.number there in
    let was = sym (get_or-map state c.args.disks.now c.in-Some.spot.disk c.index-disks-spot.result (state c.write.new.self) low) in
    let wrote = rw was at c.in-Err.ensures.written in
    rw (map-set state c.args.disks.now c.in-Some.spot.disk c.write.new.self) (sizes_kept (map state c.args.disks.now) c.in-Some.spot.disk (state c.write.new.self) wrote.keeps.size)

pub returns-in-Err-clause-entered : goal.returns-in-Err-clause-entered
returns-in-Err-clause-entered g c = λ front tail opening before are h o.
    let state = g.D.Disk.state in
    let ds = map state c.args.disks.now in
    let there = on_disk (sizes_of state c.args.disks.now) c.args.intake.now c.args.dev c.args.number c.in-Some.spot.disk c.requires.sized c.requires.fits c.in-Some.ensures.found.there c.in-Some.ensures.found.disk in
    let low = disk_told state c.args.disks.now c.in-Some.spot.disk c.args.number there in
    let was = sym (get_or-map state c.args.disks.now c.in-Some.spot.disk c.index-disks-spot.result (state c.write.new.self) low) in
    let wrote = rw was at c.in-Err.ensures.written in (
      rw (map-set state c.args.disks.now c.in-Some.spot.disk c.write.new.self)
          (write_failed ds c.in-Some.spot.disk _ _ _ (state c.write.new.self) (omega (arith, low, length-map c.args.disks.now state)) wrote),
      tt,
    )

pub returns-clause-sizes : goal.returns-clause-sizes
returns-clause-sizes g c =
    let state = g.D.Disk.state in
    let there = on_disk (sizes_of state c.args.disks.now) c.args.intake.now c.args.dev c.args.number c.in-Some.spot.disk c.requires.sized c.requires.fits c.in-Some.ensures.found.there c.in-Some.ensures.found.disk in
    let low = disk_told state c.args.disks.now c.in-Some.spot.disk c.args.number there in
    let was = sym (get_or-map state c.args.disks.now c.in-Some.spot.disk c.index-disks-spot.result (state c.write.new.self) low) in
    let wrote = rw was at c.in-Ok.ensures.written in
    rw (map-set state c.args.disks.now c.in-Some.spot.disk c.write.new.self) (sizes_kept (map state c.args.disks.now) c.in-Some.spot.disk (state c.write.new.self) wrote.keeps.size)

pub returns-clause-entered : goal.returns-clause-entered
returns-clause-entered g c = λ front tail opening before are h o.
    let state = g.D.Disk.state in
    let i = c.args.intake.now in
    let spot = c.in-Some.spot in
    let ds = map state c.args.disks.now in
    let early = (opens_at 2 _ o.opens o.whole).may.early (inl (omega arith)) in
    let at = spot_of c.args.dev c.args.number spot h c.in-Some.ensures.found in
    let there = on_disk (sizes_of state c.args.disks.now) i c.args.dev c.args.number spot.disk c.requires.sized c.requires.fits c.in-Some.ensures.found.there c.in-Some.ensures.found.disk in
    let low = disk_told state c.args.disks.now spot.disk c.args.number there in
    let was = sym (get_or-map state c.args.disks.now spot.disk c.index-disks-spot.result (state c.write.new.self) low) in
    let wrote = rw was at c.in-Ok.ensures.written in
    let marks = in_range i.bad.items spot.disk c.index_mut.result.now [] c.in-Some.ensures.marked.disk c.index_mut.ensures.value in
    let bad : c.remove.new.self ≡ set (get_or i.bad.items spot.disk []) c.args.number false = c.remove.ensures ∙ ap (λ (m : List Bool). set m c.args.number false) marks in
    let chunk : IsFirstChunk c.args.behind.now c.in-Some-first_chunk.bytes.now 512 = c.in-Some-first_chunk.ensures.cases in
    let many : length c.in-Some-first_chunk.bytes.now ≡ 512 = omega (arith, ap length chunk.same, length-take 512 c.args.behind.now, chunk.enough) in
    let are_bytes = IsBytes-take 512 c.args.behind.now (λ k. omega (arith, c.type_inv.behind k)) in
    rw (← chunk.same, map-set state c.args.disks.now spot.disk c.write.new.self)
    (took_good ds (state c.write.new.self) front opening before i _ c.args.dev c.args.number c.in-Some-first_chunk.bytes.now spot _ h early (omega (arith, c.ranges.dev.fits), omega (arith, c.ranges.number.fits), many, rw chunk.same are_bytes) at wrote (ap (set i.bad.items spot.disk) bad) c.insert.ensures refl refl refl refl refl refl)

pub returns-in-Err-clause-calls : goal.returns-in-Err-clause-calls
returns-in-Err-clause-calls g c =
    let calls = g.D.Disk.calls in
    let there = on_disk (sizes_of g.D.Disk.state c.args.disks.now) c.args.intake.now c.args.dev c.args.number c.in-Some.spot.disk c.requires.sized c.requires.fits c.in-Some.ensures.found.there c.in-Some.ensures.found.disk in
    let low = disk_told g.D.Disk.state c.args.disks.now c.in-Some.spot.disk c.args.number there in
    let was = sym (get_or-map calls c.args.disks.now c.in-Some.spot.disk c.index-disks-spot.result 0 low) in
    rw (← c.in-Some.ensures.found.disk) (map-set calls c.args.disks.now c.in-Some.spot.disk c.write.new.self ∙ ap (set (map calls c.args.disks.now) c.in-Some.spot.disk) (rw was at c.in-Err.ensures.calls))

pub returns-clause-calls : goal.returns-clause-calls
returns-clause-calls g c =
    let calls = g.D.Disk.calls in
    let there = on_disk (sizes_of g.D.Disk.state c.args.disks.now) c.args.intake.now c.args.dev c.args.number c.in-Some.spot.disk c.requires.sized c.requires.fits c.in-Some.ensures.found.there c.in-Some.ensures.found.disk in
    let low = disk_told g.D.Disk.state c.args.disks.now c.in-Some.spot.disk c.args.number there in
    let was = sym (get_or-map calls c.args.disks.now c.in-Some.spot.disk c.index-disks-spot.result 0 low) in
    rw (← c.in-Some.ensures.found.disk) (map-set calls c.args.disks.now c.in-Some.spot.disk c.write.new.self ∙ ap (set (map calls c.args.disks.now) c.in-Some.spot.disk) (rw was at c.in-Ok.ensures.calls))

pub returns-clause-sized : goal.returns-clause-sized
returns-clause-sized g c =
    let i = c.args.intake.now in
    let spot = c.in-Some.spot in
    let marked = c.in-Some.ensures.marked in
    let marks = in_range i.bad.items spot.disk c.index_mut.result.now [] marked.disk c.index_mut.ensures.value in
    let bad : c.remove.new.self ≡ set (get_or i.bad.items spot.disk []) c.args.number false = c.remove.ensures ∙ ap (λ (m : List Bool). set m c.args.number false) marks in
    sized_on i _ c.requires.sized refl (ap length c.insert.ensures ∙ length-set i.named spot.item _) refl
    (marks_long i.bad.items spot.disk c.remove.new.self marked.disk (ap length bad ∙ length-set (get_or i.bad.items spot.disk []) c.args.number false)) refl c.requires.sized.roomy
