use Rattle.std.proofs.Common.{ap}
use Rattle.region.specs.Slot.{region_of}
use Rattle.c_handle.proofs.lending.lent_as.Goals as goal

pub returns-clause-ram : goal.returns-clause-ram
returns-clause-ram g c = ap region_of c.put_back.ensures
