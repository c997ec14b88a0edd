use Rattle.receiver.specs.Opened.{told_by}
use Rattle.receiver.specs.Receiving.{place_aside}
use Rattle.c_handle.proofs.Landings.{first_awaited, first_steady}
use Rattle.c_handle.proofs.arrival.Arrival.over.Goals as goal

pub invariant_of-result : goal.invariant_of-result
invariant_of-result c = let new = c.with_terms.ensures in first_steady c.with_terms.result c.args.disks.items new.sizes new.marks

pub returns-clause-awaited : goal.returns-clause-awaited
returns-clause-awaited c = let new = c.with_terms.ensures in first_awaited (told_by c.args.terms c.args.ram) c.with_terms.result c.args.disks.items (place_aside c.args.ram) new.fed new.ram new.sizes new.disks new.place
