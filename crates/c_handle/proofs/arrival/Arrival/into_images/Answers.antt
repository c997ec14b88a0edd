use Rattle.std.proofs.Common.{◌≡◌, ap, length, sym, subst, ◌∙◌}
use Rattle.c_machine.specs.Mapping.{contents}
use Rattle.c_handle.specs.ArrivalSeen.{ArrivalSeen, Over}
use Rattle.c_handle.specs.Awaited.{awaited_by, awaited_sizes}
use Rattle.c_handle.specs.Landing.{AreDisksOf}
use Rattle.c_handle.proofs.Landings.{as_many_images, sectors_back}
use Rattle.c_handle.proofs.arrival.Arrival.into_images.Goals as goal

pub returns-in-Over : goal.returns-in-Over
returns-in-Over g c =
    let disks = c.into_disks.result.items in
    let view : awaited_by c.self.inside.progress ≡ c.args.self = c.self.view_is in
    let seen : Over c.in-Over.receiver ≡ c.args.self = sym (ap awaited_by c.in-Over.is) ∙ view in
    record {
      disks = subst (λ (a : ArrivalSeen). AreDisksOf a (contents disks) × (length disks ≡ length (awaited_sizes a))) seen (sectors_back c.in-Over.receiver disks c.into_disks.ensures.disks, as_many_images c.in-Over.receiver disks c.into_disks.ensures.sizes);
    }
