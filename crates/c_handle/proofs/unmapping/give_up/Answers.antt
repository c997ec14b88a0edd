use Rattle.std.proofs.Common.{◌∙◌}
use Rattle.c_handle.proofs.Landings.{gave_up, slots_free}
use Rattle.c_handle.proofs.unmapping.give_up.Goals as goal

pub give_back-requires : goal.give_back-requires
give_back-requires g c =
    let of = c.in-Some.ensures.disks in
    slots_free c.args.arrival c.in-Some.disks.items c.args.images.now c.len-count.result of.0 of.1 c.requires (c.len-count.ensures ∙ c.in-Some.disks.ok.0)

pub returns-in-Some : goal.returns-in-Some
returns-in-Some g c =
    let of = c.in-Some.ensures.disks in
    rw c.give_back.ensures (gave_up c.args.arrival c.in-Some.disks.items c.args.images.now c.len-count.result of.0 of.1 c.requires (c.len-count.ensures ∙ c.in-Some.disks.ok.0))
