use Rattle.receiver.specs.Opened.{told_by}
use Rattle.receiver.specs.Receiving.{place_aside}
use Rattle.c_handle.proofs.Landings.{first_awaited, first_steady}
use Rattle.c_handle.proofs.told_arrival.Arrival+Told.told_over.Goals as goal

pub invariant_of-result : goal.invariant_of-result
invariant_of-result c = let new = c.told.ensures in first_steady c.told.result c.args.disks.items new.sizes new.marks

pub returns-clause-awaited : goal.returns-clause-awaited
returns-clause-awaited c = let new = c.told.ensures in first_awaited (told_by c.args.terms c.args.ram) c.told.result c.args.disks.items (place_aside c.args.ram) new.fed new.ram new.sizes new.disks new.place
