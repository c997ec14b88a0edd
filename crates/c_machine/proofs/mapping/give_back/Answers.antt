use Rattle.std.proofs.Common.{rules, ◌≡◌, ◌∷◌, ◌∙◌, ap}
use Rattle.mapped_disk.specs.declared.image.Image.{Image}
use Rattle.c_machine.proofs.MappingImages.{empty_slot, given_below, given_more}
use Rattle.c_machine.proofs.mapping.give_back.Goals as goal

pub gone-requires : goal.gone-requires
gone-requires c =
    let i = c.loop-disk in
    let all = c.args.disks.items in
    let old = c.args.images.now in
    let step : i.disk-iterator.rest.items ≡ c.in-Some.disk ∷ c.next.new.self.rest.items = search rules in
    let below = given_below all i.disk-iterator.rest.items c.next.new.self.rest.items old i.images i.at c.in-Some.disk step i.invariant in
    ap (λ (k : Image). k.content) c.replace.ensures.value ∙ empty_slot all old i.images i.at c.index-images-at.result c.requires below i.invariant.size i.invariant.slots

pub loop-disk-preserved : goal.loop-disk-preserved
loop-disk-preserved c =
    let i = c.loop-disk in
    let step : i.disk-iterator.rest.items ≡ c.in-Some.disk ∷ c.next.new.self.rest.items = search rules in
    rw (c.replace.ensures.after, c.into_image.ensures)
    (given_more c.args.disks.items i.disk-iterator.rest.items c.next.new.self.rest.items c.args.images.now i.images i.at c.in-Some.disk c.requires.count step i.invariant)
