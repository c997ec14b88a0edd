use Rattle.std.proofs.Common.{◌<◌, ◌∙◌, arith, length}
use Rattle.std.proofs.lemmas.List.{length-set, take_all}
use Rattle.c_machine.proofs.MappingImages.{all_taken, disks_more, left_more, taken_more}
use Rattle.c_machine.proofs.mapping.mapped_disks.Goals as goal

pub loop-at-preserved : goal.loop-at-preserved
loop-at-preserved c =
    let i = c.loop-at in
    let old = c.args.images.now in
    let none = c.replace-image.new.dest in
    let image = c.replace-image.result in
    let below : i.at < length old = c.loop-at-test.true in
    let there : i.at < length i.images = omega (arith, below, i.invariant.size) in
    record {
      size = length-set i.images i.at none ∙ i.invariant.size;
      room = omega (arith, i.invariant.room, c.push_reserved.ensures.capacity);
      count = omega (arith, i.invariant.count, c.push_reserved.ensures.len);
      disks = rw (c.push_reserved.ensures.items, c.new.ensures) (disks_more i.images old i.at image c.index-images-at.result i.disks.items there below i.invariant.left c.replace-image.ensures.value i.invariant.disks);
      taken = taken_more i.images i.at none there (rw c.replace-image.ensures.after c.none.ensures) i.invariant.taken;
      left = left_more i.images old i.at none none there below i.invariant.left;
    }

pub returns-clause-taken : goal.returns-clause-taken
returns-clause-taken c = all_taken c.args.images.now c.loop-at.images c.loop-at.at c.loop-at.invariant.size c.loop-at-test.false c.loop-at.invariant.taken

pub returns-clause-disks : goal.returns-clause-disks
returns-clause-disks c = c.loop-at.invariant.disks ∙ take_all c.loop-at.at c.args.images.now c.loop-at-test.false
