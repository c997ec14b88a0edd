-- The bytes of the region stay those of sectors.
use Rattle.std.proofs.Common.{◌≡◌, ◌<◌, ◌+◌, ◌-◌, ◌*◌, length, drop, refl, sym, ◌∙◌, rules, arith}
use borrow.Rule.Slice.PartMut.{put_mid, same_len_mid}
use Rattle.std.proofs.lemmas.List.{length-drop, length-take-le}
use Rattle.std.proofs.lemmas.List.Elements.{All-set}
use Rattle.blk.specs.Disk.{IsSector}
use Rattle.mapped_disk.specs.Bytes.{cut}
use Rattle.mapped_disk.proofs.Sectors.{cut_put, length_cut}
use Rattle.mapped_disk.proofs.mapped_disk.MappedDiskDisk.write.Goals as goal

pub invariant_of-self : goal.invariant_of-self
invariant_of-self c =
    let n = c.args.n in let count = c.self.inside.count in let old = c.self.inside.region.content in let bytes = c.args.bytes.now in
    let within : n < count = search (rules, length_cut) in
    let size : length bytes ≡ 512 = search rules in
    let sector : IsSector bytes = record { size = size; bytes = search rules } in
    let one : n * 512 + 512 - n * 512 ≡ 512 = omega arith in
    let now : put_mid (n * 512) (n * 512 + 512 - n * 512) c.as_mut_slice.result.now c.copy_from_slice.new.self ≡ put_mid (n * 512) 512 old bytes = rw (one, c.as_mut_slice.ensures.value, c.copy_from_slice.ensures.after) refl in
    record {
      count = rw now (same_len_mid (n * 512) 512 old bytes (size ∙ sym (length-take-le 512 (drop (n * 512) old) (omega (arith, length-drop (n * 512) old, within, c.self.invariant.count)))) ∙ c.self.invariant.count);
      whole = rw (now, cut_put count n old bytes within c.self.invariant.count sector.size) (All-set IsSector (cut count old) n bytes sector c.self.invariant.whole);
    }
