use Rattle.std.proofs.Common.{◌≡◌, subst}
use Rattle.c_handle.specs.ArrivalSeen.{ArrivalSeen}
use Rattle.c_handle.specs.Awaited.{is_over}
use Rattle.c_handle.specs.ToldArrival.{DueAfter}
use Rattle.c_handle.proofs.ToldArrival.{byte_fed}
use Rattle.c_handle.proofs.told_arrival.Arrival+Told.feed_byte.Goals as goal

pub returns-in-Ok : goal.returns-in-Ok
returns-in-Ok c =
    let byte = c.args.byte.now in
    let next = c.feed_some.new.self in
    let fed : DueAfter c.args.self.now byte c.in-Ok.field-0 next = subst (λ (a : ArrivalSeen). DueAfter a byte c.in-Ok.field-0 next) c.self.view_is c.in-Ok.ensures.fed in
    record {
      fed = byte_fed c.args.self.now next byte c.in-Ok.field-0 c.requires.one c.requires.early fed;
      refused = tt;
      untouched = tt;
      before = fed.before;
      disks = subst (λ (a : ArrivalSeen). is_over next ≡ is_over a) c.self.view_is c.in-Ok.ensures.disks;
    }
