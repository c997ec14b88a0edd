use Rattle.std.proofs.Common.{rules, ◌≡◌, [], ◌∷◌, ◌∙◌, ap, arith, length, subst}
use Rattle.std.specs.Prelude.{None, Option, Some}
use Rattle.std.proofs.lemmas.Grind.{common_steps}
use Rattle.mapped_disk.specs.declared.image.Image.{Image}
use Rattle.c_handle.specs.Unmapping.{AreHandedBack, disk_in, disks_in, held_by}
use Rattle.c_handle.proofs.Handing.{IsBackSoFar, all_back, asked, nil_of, none_more, put_more, there, was_empty}
use Rattle.c_handle.proofs.unmapping.hand_back.Goals as goal

pub loop-device-preserved-in_default : goal.loop-device-preserved-in_default
loop-device-preserved-in_default c =
    let i = c.loop-device in
    let device = c.in-Some.device in
    let step : i.device-iterator.rest.items ≡ device ∷ c.next.new.self.rest.items = search rules in
    let none : c.image_of.result ≡ None = c.in_default.is in
    let one : AreHandedBack (disk_in device) (held_by None) = subst (λ (o : Option Image). AreHandedBack (disk_in device) (held_by o)) none c.image_of.ensures in
    none_more (disks_in c.args.machine.devices) i.device-iterator.rest.items c.next.new.self.rest.items c.args.images.now i.images i.at device step i.invariant one

pub bounds-images-at : goal.bounds-images-at
bounds-images-at c =
    let i = c.loop-device in
    let device = c.in-Some.device in
    let image = c.in-Some-image_of.image in
    let step : i.device-iterator.rest.items ≡ device ∷ c.next.new.self.rest.items = search rules in
    let one : AreHandedBack (disk_in device) (held_by (Some image)) = subst (λ (o : Option Image). AreHandedBack (disk_in device) (held_by o)) c.in-Some-image_of.is c.image_of.ensures in
    there (disks_in c.args.machine.devices) i.device-iterator.rest.items c.next.new.self.rest.items c.args.images.now i.images i.at device image step i.invariant one (asked (length (disks_in c.args.machine.devices)) c.args.images.now c.requires).1

pub gone-requires : goal.gone-requires
gone-requires c =
    let i = c.loop-device in
    let device = c.in-Some.device in
    let image = c.in-Some-image_of.image in
    let step : i.device-iterator.rest.items ≡ device ∷ c.next.new.self.rest.items = search rules in
    let one : AreHandedBack (disk_in device) (held_by (Some image)) = subst (λ (o : Option Image). AreHandedBack (disk_in device) (held_by o)) c.in-Some-image_of.is c.image_of.ensures in
    let asks = asked (length (disks_in c.args.machine.devices)) c.args.images.now c.requires in
    let below = there (disks_in c.args.machine.devices) i.device-iterator.rest.items c.next.new.self.rest.items c.args.images.now i.images i.at device image step i.invariant one asks.1 in
    ap (λ (k : Image). k.content) c.replace.ensures.value ∙ was_empty i.images c.args.images.now i.at c.index-images-at.result asks.0 below i.invariant.size i.invariant.left

pub loop-device-preserved : goal.loop-device-preserved
loop-device-preserved c =
    let i = c.loop-device in
    let device = c.in-Some.device in
    let image = c.in-Some-image_of.image in
    let step : i.device-iterator.rest.items ≡ device ∷ c.next.new.self.rest.items = search rules in
    let one : AreHandedBack (disk_in device) (held_by (Some image)) = subst (λ (o : Option Image). AreHandedBack (disk_in device) (held_by o)) c.in-Some-image_of.is c.image_of.ensures in
    rw c.replace.ensures.after (put_more (disks_in c.args.machine.devices) i.device-iterator.rest.items c.next.new.self.rest.items c.args.images.now i.images i.at device image step i.invariant one (asked (length (disks_in c.args.machine.devices)) c.args.images.now c.requires).1)

pub returns : goal.returns
returns c =
    let i = c.loop-device in
    let size : length i.device-iterator.rest.items ≡ 0 = grind (arith, common_steps) in
    let none : i.device-iterator.rest.items ≡ [] = nil_of i.device-iterator.rest.items size in
    let so = subst (λ (l : _). IsBackSoFar (disks_in c.args.machine.devices) l c.args.images.now i.images i.at) none i.invariant in
    all_back c.args.machine c.args.images.now i.images i.at (asked (length (disks_in c.args.machine.devices)) c.args.images.now c.requires).0 so
